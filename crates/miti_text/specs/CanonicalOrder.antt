-- The canonical order of detections: by epoch, then by the bytes of the site, then by those of the id.
use Rattle.std.specs.declared.cmp.Ordering.{Ordering}
use Rattle.std.specs.Ordering.{int_cmp, nat_cmp, on, then_cmp}
use Rattle.std.specs.Cmp.Lexicographic.{slice_cmp}
use Rattle.miti_text.specs.Observation.{Observation}

abbrev pub canonical_cmp : Observation → Observation → Ordering
canonical_cmp = then_cmp (on (λ d. d.epoch) int_cmp) (then_cmp (on (λ d. d.site) (slice_cmp nat_cmp)) (on (λ d. d.id) (slice_cmp nat_cmp)))
