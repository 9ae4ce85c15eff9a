-- One exchange after another.
use Rattle.std.proofs.Common.{ℕ, List, inl, inr}
use Rattle.std.specs.List.{Contains}
use Rattle.closed_sets.proofs.Lists.{in_or_not}
use Rattle.set_grow.specs.Nights.{NumberedNightData}
use Rattle.tracklet_register.specs.Exchanges.{AreExchanged, AreOfBoth}

pub both_exchanged : (first middle last : List NumberedNightData) (went gone lost came joined new : List ℕ) → AreExchanged went came first middle → AreExchanged gone joined middle last
    → ((number : ℕ) → Contains joined number → ¬ (Contains went number)) → AreOfBoth went gone lost → AreOfBoth came joined new → AreExchanged lost new first last
both_exchanged first middle last went gone lost came joined new one other apart all_lost all_new = record {
  there = record {
    stay = λ night tracklet s stays. other.there.stay night tracklet (one.there.stay night tracklet s (λ c. stays ((all_lost tracklet.num).1 (inl c)))) (λ c. stays ((all_lost tracklet.num).1 (inr c)));
    none = λ night tracklet s c. elim ((all_lost tracklet.num).0 c) [
      | inr d ↦ other.there.none night tracklet s d
      | inl d ↦ elim (in_or_not joined tracklet.num) [
        | inl k ↦ apart tracklet.num k d
        | inr n ↦ one.there.none night tracklet (other.back.stay night tracklet s n) d
      ]
    ];
  };
  back = record {
    stay = λ night tracklet s stays. one.back.stay night tracklet (other.back.stay night tracklet s (λ c. stays ((all_new tracklet.num).1 (inr c)))) (λ c. stays ((all_new tracklet.num).1 (inl c)));
    none = λ night tracklet s c. elim ((all_new tracklet.num).0 c) [
      | inl d ↦ one.back.none night tracklet s d
      | inr d ↦ elim (in_or_not went tracklet.num) [
        | inl k ↦ apart tracklet.num d k
        | inr n ↦ other.back.none night tracklet (one.there.stay night tracklet s n) d
      ]
    ];
  };
}
