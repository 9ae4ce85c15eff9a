-- What a clause on Ok says of a call that answered Ok.
use Rattle.std.proofs.Common.{Ok, Err}
use Rattle.std.specs.Result.{IsOk, OnOk, OnErr}
use Rattle.std.specs.declared.result.Result.{Result}

pub on_ok : {T E : Type 0} {P : Type 0} (r : Result T E) → IsOk r → OnOk r P → P
on_ok (Ok x) h p = p
on_ok (Err e) h p = cc

pub on_err : {T E : Type 0} (r : Result T E) (P : Type 0) → P → OnErr r P
on_err (Ok x) P p = tt
on_err (Err e) P p = p
