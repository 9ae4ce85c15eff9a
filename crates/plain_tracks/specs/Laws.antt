-- What holds of the maximal tracks of all nights.
use Rattle.std.specs.Prelude.{List}
use Rattle.sky_units.specs.SettingsData.{SettingsData}
use Rattle.sky_units.specs.TrackletData.{TrackSetData, NightTracklets}
use Rattle.sky_units.specs.Tracks.{AreNights, AreMaximalTracks}

-- the maximal tracks of nights that follow one another can be listed, whatever the settings
abbrev pub MaximalTracksExist : Type 0
MaximalTracksExist = (settings : SettingsData) (nights : List NightTracklets) → AreNights nights → (list : List TrackSetData) × AreMaximalTracks settings nights list
