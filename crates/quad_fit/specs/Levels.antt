-- Where an exchange ends: a curve that passes all the points and rests on a few of them.
use Rattle.std.specs.Prelude.{ℤ, pos, ◌*ℤ◌, ◌≤ℤ◌, ◌<ℤ◌, Bool, not, List}
use Rattle.std.specs.List.{All}
use Rattle.sky_math.specs.Lists.{EachThree}
use Rattle.sky_math.specs.Quadratics.{Point, IsAdmitted, Passes}
use Rattle.sky_math.specs.Triples.{Suits}
use Rattle.quad_fit.specs.Curves.{CurveData, quadratic_of}
use Rattle.quad_fit.specs.References.{signed, least_bend, AsksMoreSlope, IsLevelLine, IsLevelled, IsPairOf, IsTripleOf}
use Rattle.quad_fit.specs.declared.exchange.Exchanged.{Exchanged}
use Rattle.quad_fit.specs.declared.exchange.Exchanged.TheVariants as steeper
use Rattle.quad_fit.specs.declared.levelling.Levelled.{Levelled}
use Rattle.quad_fit.specs.declared.levelling.Reference.{Reference}
use Rattle.quad_fit.specs.declared.levelling.Reference.TheVariants.{Pair, Triple}
use Rattle.quad_fit.specs.declared.references.Triple as three

-- no line is within the tolerance of the three points: a curve that is must bend, up or down as said
abbrev pub IsBent : ℤ → Bool → three.Triple → Type 0
IsBent tol up t = pos 0 <ℤ least_bend tol up t

-- the curve is levelled on a reference among the points
abbrev pub RestsOn : ℤ → List Point → CurveData → Reference → Type 0
RestsOn tol points c (Pair pair) = IsPairOf points pair × IsLevelLine tol pair c
RestsOn tol points c (Triple t up) = IsTripleOf points t × IsBent tol up t × IsLevelled tol up t c

-- the curve keeps the limit of acceleration, passes all the points, and rests on a few of them
pub record IsLevel (acc tol : ℤ) (points : List Point) (l : Levelled) : Type 0 where
  pub admitted : IsAdmitted acc (quadratic_of l.curve)
  pub passes : All (Passes tol (quadratic_of l.curve)) points
  pub rests : RestsOn tol points l.curve l.reference

-- the curve passes all the points, and of the leading coefficients that suit each three of them its own is the least, or the greatest where `up` is false
pub record IsExtreme (tol : ℤ) (up : Bool) (points : List Point) (c : CurveData) : Type 0 where
  pub passes : All (Passes tol (quadratic_of c)) points
  pub is_extreme : (a b : ℤ) → pos 0 <ℤ b → EachThree (Suits tol a b) points → (signed up c.bend *ℤ b) ≤ℤ (signed up a *ℤ c.den)

-- two points that ask for more slope than the line has, or three that no line passes
abbrev pub IsExchanged : ℤ → CurveData → List Point → Bool → Exchanged → Type 0
IsExchanged tol line points above (steeper.Pair pair) = IsPairOf points pair × AsksMoreSlope tol line pair
IsExchanged tol line points above (steeper.Triple t) = IsTripleOf points t × IsBent tol (not above) t
