use Rattle.std.proofs.Common.{◌≡◌, ◌∙◌, ap₂, subst, sym, to_z, of_z, w64, arith}
use Rattle.std.specs.Int.{int_max, int_min}
use Rattle.std.proofs.lemmas.Int.{ints}
use Rattle.bound_prune.specs.SpanData.{LiesIn, SpanData}
use Rattle.bound_prune.proofs.NightSpans.{same_span, span_by, union, union_holds, union_span}
use Rattle.bound_prune.proofs.spans.NightSpan.with.Goals as goal

pub invariant_of-result : goal.invariant_of-result
invariant_of-result c =
    let p = c.self.invariant in
    let q = c.other.invariant in
    let sf = p.first_epoch in
    let sl = p.last_epoch in
    let sx = p.lasting in
    let sa = p.rates_apart in
    let of = q.first_epoch in
    let ol = q.last_epoch in
    let ox = q.lasting in
    let oa = q.rates_apart in
    let f : to_z w64 (of_z w64 c.self.inside.first_epoch) ≡ c.self.inside.first_epoch = omega (arith, ints) in
    let g : to_z w64 (of_z w64 c.other.inside.first_epoch) ≡ c.other.inside.first_epoch = omega (arith, ints) in
    let h : to_z w64 (of_z w64 c.self.inside.last_epoch) ≡ c.self.inside.last_epoch = omega (arith, ints) in
    let i : to_z w64 (of_z w64 c.other.inside.last_epoch) ≡ c.other.inside.last_epoch = omega (arith, ints) in
    let j : to_z w64 (of_z w64 c.self.inside.lasting) ≡ c.self.inside.lasting = omega (arith, ints) in
    let k : to_z w64 (of_z w64 c.other.inside.lasting) ≡ c.other.inside.lasting = omega (arith, ints) in
    let m : to_z w64 (of_z w64 c.self.inside.rates_apart) ≡ c.self.inside.rates_apart = omega (arith, ints) in
    let n : to_z w64 (of_z w64 c.other.inside.rates_apart) ≡ c.other.inside.rates_apart = omega (arith, ints) in
    let first : c.min.result ≡ int_min c.self.inside.first_epoch c.other.inside.first_epoch = rw (f, g) at c.min.ensures.value in
    let last : c.max.result ≡ int_max c.self.inside.last_epoch c.other.inside.last_epoch = rw (h, i) at c.max.ensures.value in
    let lasts : c.max-2.result ≡ int_max c.self.inside.lasting c.other.inside.lasting = rw (j, k) at c.max-2.ensures.value in
    let apart : c.max-3.result ≡ int_max c.self.inside.rates_apart c.other.inside.rates_apart = rw (m, n) at c.max-3.ensures.value in
    let is = union_span (span_by c.self.inside.first_epoch c.self.inside.last_epoch c.self.inside.lasting c.self.inside.rates_apart) (span_by c.other.inside.first_epoch c.other.inside.last_epoch c.other.inside.lasting c.other.inside.rates_apart) p q in
    let a1 = is.first_epoch in
    let a2 = is.last_epoch in
    let a3 = is.lasting in
    let a4 = is.rates_apart in
    let r1 : to_z w64 (of_z w64 c.min.result) ≡ c.min.result = omega (arith, ints) in
    let r2 : to_z w64 (of_z w64 c.max.result) ≡ c.max.result = omega (arith, ints) in
    let r3 : to_z w64 (of_z w64 c.max-2.result) ≡ c.max-2.result = omega (arith, ints) in
    let r4 : to_z w64 (of_z w64 c.max-3.result) ≡ c.max-3.result = omega (arith, ints) in
    rw (r1, r2, r3, r4, first, last, lasts, apart) is

pub returns : goal.returns
returns c = λ one either.
    let p = c.self.invariant in
    let q = c.other.invariant in
    let sf = p.first_epoch in
    let sl = p.last_epoch in
    let sx = p.lasting in
    let sa = p.rates_apart in
    let of = q.first_epoch in
    let ol = q.last_epoch in
    let ox = q.lasting in
    let oa = q.rates_apart in
    let f : to_z w64 (of_z w64 c.self.inside.first_epoch) ≡ c.self.inside.first_epoch = omega (arith, ints) in
    let g : to_z w64 (of_z w64 c.other.inside.first_epoch) ≡ c.other.inside.first_epoch = omega (arith, ints) in
    let h : to_z w64 (of_z w64 c.self.inside.last_epoch) ≡ c.self.inside.last_epoch = omega (arith, ints) in
    let i : to_z w64 (of_z w64 c.other.inside.last_epoch) ≡ c.other.inside.last_epoch = omega (arith, ints) in
    let j : to_z w64 (of_z w64 c.self.inside.lasting) ≡ c.self.inside.lasting = omega (arith, ints) in
    let k : to_z w64 (of_z w64 c.other.inside.lasting) ≡ c.other.inside.lasting = omega (arith, ints) in
    let m : to_z w64 (of_z w64 c.self.inside.rates_apart) ≡ c.self.inside.rates_apart = omega (arith, ints) in
    let n : to_z w64 (of_z w64 c.other.inside.rates_apart) ≡ c.other.inside.rates_apart = omega (arith, ints) in
    let first : c.min.result ≡ int_min c.self.inside.first_epoch c.other.inside.first_epoch = rw (f, g) at c.min.ensures.value in
    let last : c.max.result ≡ int_max c.self.inside.last_epoch c.other.inside.last_epoch = rw (h, i) at c.max.ensures.value in
    let lasts : c.max-2.result ≡ int_max c.self.inside.lasting c.other.inside.lasting = rw (j, k) at c.max-2.ensures.value in
    let apart : c.max-3.result ≡ int_max c.self.inside.rates_apart c.other.inside.rates_apart = rw (m, n) at c.max-3.ensures.value in
    let is = union_span (span_by c.self.inside.first_epoch c.self.inside.last_epoch c.self.inside.lasting c.self.inside.rates_apart) (span_by c.other.inside.first_epoch c.other.inside.last_epoch c.other.inside.lasting c.other.inside.rates_apart) p q in
    let a1 = is.first_epoch in
    let a2 = is.last_epoch in
    let a3 = is.lasting in
    let a4 = is.rates_apart in
    let r1 : to_z w64 (of_z w64 c.min.result) ≡ c.min.result = omega (arith, ints) in
    let r2 : to_z w64 (of_z w64 c.max.result) ≡ c.max.result = omega (arith, ints) in
    let r3 : to_z w64 (of_z w64 c.max-2.result) ≡ c.max-2.result = omega (arith, ints) in
    let r4 : to_z w64 (of_z w64 c.max-3.result) ≡ c.max-3.result = omega (arith, ints) in
    let made = same_span (to_z w64 (of_z w64 c.min.result)) (to_z w64 (of_z w64 c.max.result)) (to_z w64 (of_z w64 c.max-2.result)) (to_z w64 (of_z w64 c.max-3.result))
    (int_min c.self.inside.first_epoch c.other.inside.first_epoch) (int_max c.self.inside.last_epoch c.other.inside.last_epoch) (int_max c.self.inside.lasting c.other.inside.lasting) (int_max c.self.inside.rates_apart c.other.inside.rates_apart) (r1 ∙ first) (r2 ∙ last) (r3 ∙ lasts) (r4 ∙ apart) in
    let both = ap₂ union c.self.view_is c.other.view_is in
    subst (λ (x : SpanData). LiesIn x one) (sym (made ∙ both)) (union_holds c.args.self.now c.args.other.now one either)
