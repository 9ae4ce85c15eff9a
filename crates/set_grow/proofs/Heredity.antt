-- Every part of a fitting set fits.
use Rattle.std.proofs.Common.{◌≡◌, ℕ, List, get_or, refl, sym, subst, arith}
use Rattle.std.specs.List.{Contains}
use Rattle.closed_sets.specs.Families.{IsHereditary, IsSet}
use Rattle.sky_units.proofs.Parts.{near_of_arc, part_is_admitted}
use Rattle.sky_units.specs.Arcs.{IsArc, MeetSpreadRule}
use Rattle.sky_units.specs.Motion.{AxisAdmits}
use Rattle.sky_units.specs.SettingsData.{SettingsData}
use Rattle.sky_units.specs.SpotData.{SpotData}
use Rattle.sky_units.specs.TrackletData.{spots_of}
use Rattle.sky_units.specs.Tracks.{AreAmong, AreNights}
use Rattle.sky_units.specs.declared.axis.Axis.TheVariants.{Ra, Dec}
use Rattle.set_grow.specs.Fitting.{FitsByNumber}
use Rattle.set_grow.specs.Numbered.{NumberedTracklet, NumberedTracklets, numbers_in, tracklets_in, without_numbers}
use Rattle.set_grow.proofs.Choices.{arc_of_choice, in_spots, of_spots}
use Rattle.set_grow.proofs.Chosen.{narrowed, plain_choice}
use Rattle.set_grow.proofs.Members.{among, each_among, in_mapped, of_mapped}
use Rattle.set_grow.proofs.NumberSets.{number_or_not}

-- each two of a part of an arc are near
near_parts : (spots part : List SpotData) → IsArc spots → AreAmong part spots → MeetSpreadRule part
near_parts spots part arc inside = λ i j d ij jl.
    let x : SpotData = get_or part i d in
    let y : SpotData = get_or part j d in
    let cx : Contains spots x = inside i d (omega arith) in
    let cy : Contains spots y = inside j d jl in
    (near_of_arc Ra spots x y arc cx cy, near_of_arc Dec spots x y arc cx cy)

-- spots of some of the tracklets are spots of all of them
pub fewer_spots : (chosen wider : NumberedTracklets) → ((one : NumberedTracklet) → Contains chosen one → Contains wider one) → AreAmong (spots_of (without_numbers chosen)) (spots_of (without_numbers wider))
fewer_spots chosen wider h = each_among (spots_of (without_numbers chosen)) (spots_of (without_numbers wider)) (λ spot c.
    let t = of_spots (without_numbers chosen) spot c in
    let one = of_mapped (λ (one : NumberedTracklet). one.tracklet) chosen t.0 t.1 in
    let there : Contains (without_numbers wider) one.0.tracklet = in_mapped (λ (one : NumberedTracklet). one.tracklet) wider one.0 (h one.0 one.1) in
    in_spots (without_numbers wider) t.0 spot (subst (Contains (without_numbers wider)) one.2 there) t.2)

pub part_fits : (settings : SettingsData) (nights : List NumberedTracklets) (set part : List ℕ) → AreNights (tracklets_in nights) → FitsByNumber settings nights set → IsSet part → AreAmong part set → FitsByNumber settings nights part
part_fits settings nights set part a f is_set inside =
    let chosen : NumberedTracklets = f.are.chosen in
    let of_part : NumberedTracklet → Type 0 = λ one. Contains part one.num in
    let n = narrowed nights (λ one. Contains part one.num) chosen (λ one. number_or_not part one.num) f.are.choice in
    let is : f.tracklets ≡ without_numbers chosen = f.are.are in
    let arc : IsArc (spots_of (without_numbers chosen)) = arc_of_choice (tracklets_in nights) (without_numbers chosen) a (plain_choice nights chosen f.are.choice) (subst (λ t. MeetSpreadRule (spots_of t)) is f.spread) in
    let fewer : AreAmong (spots_of (without_numbers n.list)) (spots_of (without_numbers chosen)) = fewer_spots n.list chosen n.from in
    record {
      is_set = is_set;
      tracklets = without_numbers n.list;
      are = record {
        chosen = n.list;
        choice = n.choice;
        found = each_among part (numbers_in n.list) (λ x c.
            let one = of_mapped (λ (one : NumberedTracklet). one.num) chosen x (among set (numbers_in chosen) x f.are.found (among part set x inside c)) in
            let kept : Contains n.list one.0 = n.all one.0 one.1 (subst (Contains part) (sym one.2) c) in
            subst (Contains (numbers_in n.list)) one.2 (in_mapped (λ (one : NumberedTracklet). one.num) n.list one.0 kept));
        wanted = each_among (numbers_in n.list) part (λ x c.
            let one = of_mapped (λ (one : NumberedTracklet). one.num) n.list x c in
            subst (Contains part) one.2 (n.passes one.0 one.1));
        are = refl;
      };
      spread = near_parts (spots_of (without_numbers chosen)) (spots_of (without_numbers n.list)) arc fewer;
      fits = (
        part_is_admitted Ra settings (spots_of (without_numbers chosen)) (spots_of (without_numbers n.list)) arc fewer (subst (λ t. AxisAdmits Ra settings (spots_of t)) is f.fits.0),
        part_is_admitted Dec settings (spots_of (without_numbers chosen)) (spots_of (without_numbers n.list)) arc fewer (subst (λ t. AxisAdmits Dec settings (spots_of t)) is f.fits.1),
      );
    }

pub parts_fit : (settings : SettingsData) (nights : List NumberedTracklets) → AreNights (tracklets_in nights) → IsHereditary (FitsByNumber settings nights)
parts_fit settings nights a = record { sets = λ set f. f.is_set; parts = λ set part f s i. part_fits settings nights set part a f s i }
