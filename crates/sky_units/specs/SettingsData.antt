-- The eleven settings, their ranges and their defaults.
use Rattle.std.specs.Prelude.{ℤ, pos}
use Rattle.sky_units.specs.SettingRanges.{IsInRange}
use Rattle.sky_units.specs.declared.setting_names.Setting.TheVariants.{TolRa, TolDec, AccRa, AccDec, RateRa, RateDec, LineTol, PurgeTol, PairGap, NightShift, Stages}

pub record SettingsData : Type 0 where
  pub tol_ra : ℤ
  pub tol_dec : ℤ
  pub acc_ra : ℤ
  pub acc_dec : ℤ
  pub rate_ra : ℤ
  pub rate_dec : ℤ
  pub line_tol : ℤ
  pub purge_tol : ℤ
  pub pair_gap : ℤ
  pub night_shift : ℤ
  pub stages : ℤ

-- the settings with these values
abbrev pub settings_data : ℤ → ℤ → ℤ → ℤ → ℤ → ℤ → ℤ → ℤ → ℤ → ℤ → ℤ → SettingsData
settings_data tol_ra tol_dec acc_ra acc_dec rate_ra rate_dec line_tol purge_tol pair_gap night_shift stages = record {
  tol_ra = tol_ra;
  tol_dec = tol_dec;
  acc_ra = acc_ra;
  acc_dec = acc_dec;
  rate_ra = rate_ra;
  rate_dec = rate_dec;
  line_tol = line_tol;
  purge_tol = purge_tol;
  pair_gap = pair_gap;
  night_shift = night_shift;
  stages = stages;
}

-- each setting lies in its range
pub record AreSettings (s : SettingsData) : Type 0 where
  pub tol_ra_in_range : IsInRange TolRa s.tol_ra
  pub tol_dec_in_range : IsInRange TolDec s.tol_dec
  pub acc_ra_in_range : IsInRange AccRa s.acc_ra
  pub acc_dec_in_range : IsInRange AccDec s.acc_dec
  pub rate_ra_in_range : IsInRange RateRa s.rate_ra
  pub rate_dec_in_range : IsInRange RateDec s.rate_dec
  pub line_tol_in_range : IsInRange LineTol s.line_tol
  pub purge_tol_in_range : IsInRange PurgeTol s.purge_tol
  pub pair_gap_in_range : IsInRange PairGap s.pair_gap
  pub night_shift_in_range : IsInRange NightShift s.night_shift
  pub stages_in_range : IsInRange Stages s.stages

-- the settings that hold where nobody sets another
abbrev pub standard_settings : SettingsData
standard_settings = record {
  tol_ra = pos 300;
  tol_dec = pos 300;
  acc_ra = pos 20000;
  acc_dec = pos 20000;
  rate_ra = pos 500000;
  rate_dec = pos 500000;
  line_tol = pos 300;
  purge_tol = pos 200;
  pair_gap = pos 62500;
  night_shift = pos 0;
  stages = pos 3;
}
