-- What a list of the ends of each night's tracklets has at the place of a night.
use Rattle.std.proofs.Common.{◌≡◌, ℕ, ◌<◌, List, length, get_or, ap, ◌∙◌}
use Rattle.std.proofs.lemmas.List.{get_or-map}
use Rattle.bound_prune.specs.EndsData.{EndsData}
use Rattle.sky_units.specs.SettingsData.{SettingsData}
use Rattle.set_grow.specs.Ends.{ends_by_night, ends_in}
use Rattle.set_grow.specs.Nights.{NumberedNightData}
use Rattle.set_grow.specs.Numbered.{without_numbers}

-- the ends of a night's tracklets
pub ends_there_in : (settings : SettingsData) (nights : List NumberedNightData) (lists : List (List EndsData)) (i : ℕ) (d : NumberedNightData) (list : List EndsData) → lists ≡ ends_by_night settings nights → i < length nights → list ≡ get_or lists i list → list ≡ ends_in settings (without_numbers (get_or nights i d).tracklets)
ends_there_in settings nights lists i d list e l is = is ∙ (ap (λ xs. get_or xs i list) e ∙ get_or-map (λ (night : NumberedNightData). ends_in settings (without_numbers night.tracklets)) nights i d list l)
