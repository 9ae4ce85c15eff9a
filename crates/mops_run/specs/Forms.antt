-- What the program's words ask for.
use Rattle.std.specs.Prelude.{ℕ, ◌<◌, ◌≤◌, List, [], ◌∷◌, length, Option, Some, None, codes, bytes_eq, nat_le, ◌&&◌, if◌then◌else◌}
use Rattle.miti_text.specs.Numerals.{size_of}
use Rattle.made_sky.specs.MadeSky.{MadeSky}
use Rattle.mops_run.specs.declared.forms.Form.{Form}
use Rattle.mops_run.specs.declared.forms.Form.TheVariants.{Watch, Link, Generate, Summary}
use Rattle.mops_run.specs.declared.forms.SkyPlan.{SkyPlan}

-- a number that lies between two limits
abbrev pub within : ℕ → ℕ → ℕ → Option ℕ
within low high n = if nat_le low n && nat_le n high then Some n else None

infixl 10 ◌>>=◌
abbrev pub ◌>>=◌ : {A B : Type 0} → Option A → (A → Option B) → Option B
(Some x) >>= f = f x
None >>= f = None

-- the number that one to ten digits write, where it lies between two limits
abbrev pub number_between : ℕ → ℕ → List ℕ → Option ℕ
number_between low high word = if nat_le (length word) 10 then size_of word >>= within low high else None

-- the words of a made sky: its number, below 2^32, one to thirty nights, and one to a thousand objects
abbrev pub plan_of : List ℕ → List ℕ → List ℕ → Option SkyPlan
plan_of number nights objects = do
  n ← number_between 0 4294967295 number
  k ← number_between 1 30 nights
  m ← number_between 1 1000 objects
  Some (record { number = n; nights = k; objects = m })

-- a form of one word
abbrev pub lone_form : List ℕ → Option Form
lone_form name =
    if bytes_eq name (codes "watch") then Some Watch
    else (if bytes_eq name (codes "link") then Some Link
    else None)

-- a form that makes a sky
abbrev pub sky_form : List ℕ → SkyPlan → Option Form
sky_form name plan =
    if bytes_eq name (codes "generate") then Some (Generate plan)
    else (if bytes_eq name (codes "summary") then Some (Summary plan)
    else None)

-- the form that words have: one word, or four
unfoldable pub form_of : List (List ℕ) → Option Form
form_of (name ∷ []) = lone_form name
form_of (name ∷ number ∷ nights ∷ objects ∷ []) = plan_of number nights objects >>= sky_form name
form_of _ = None

-- the sky that is made so
abbrev pub sky_of : SkyPlan → MadeSky
sky_of plan = record { number = plan.number; nights = plan.nights; objects = plan.objects }

-- a sky of one to thirty nights and one to a thousand objects
pub record IsPlan (plan : SkyPlan) : Type 0 where
  pub some_nights : 0 < plan.nights
  pub few_nights : plan.nights ≤ 30
  pub some_objects : 0 < plan.objects
  pub few_objects : plan.objects ≤ 1000

-- a form that makes a sky keeps these limits
abbrev pub HasPlan : Form → Type 0
HasPlan Watch = Unit {0}
HasPlan Link = Unit {0}
HasPlan (Generate plan) = IsPlan plan
HasPlan (Summary plan) = IsPlan plan
