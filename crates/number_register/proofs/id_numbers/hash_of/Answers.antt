use Rattle.std.proofs.Common.{◌≡◌, ◌+◌, ◌<◌, ℕ, List, length, get_or, take, take_all, refl, sym, ap, ◌∙◌}
use Rattle.std.proofs.lemmas.List.Sums.{fold_more}
use Rattle.number_register.specs.IdNumbers.{id_hash, hash_step}
use Rattle.number_register.proofs.id_numbers.hash_of.Goals as goal

hash_more : (bytes : List ℕ) (i d : ℕ) → i < length bytes → id_hash (take (i + 1) bytes) ≡ hash_step (id_hash (take i bytes)) (get_or bytes i d)
unfolding id_hash
hash_more bytes i d h = fold_more hash_step 0 bytes i d h

hash_none : (bytes : List ℕ) → 0 ≡ id_hash (take 0 bytes)
unfolding id_hash
hash_none bytes = refl

pub loop-byte-init : goal.loop-byte-init
loop-byte-init c = hash_none c.args.id.now

pub loop-byte-preserved : goal.loop-byte-preserved
loop-byte-preserved c =
    c.hash_with-hash.ensures ∙ (ap (λ (h : ℕ). hash_step h (get_or c.args.id.now c.loop-byte.byte-index 0)) c.loop-byte.invariant ∙ sym (hash_more c.args.id.now c.loop-byte.byte-index 0 c.loop-byte-test.true))

pub returns : goal.returns
returns c = c.loop-byte.invariant ∙ ap id_hash (take_all c.loop-byte.byte-index c.args.id.now c.loop-byte-test.false)
