-- A setting that can be set leaves the settings in their ranges.
use Rattle.std.proofs.Common.{◌≡◌, ℕ, ℤ, pos, Bool, true, false, ◌&&◌, if◌then◌else◌, List, refl, inl, inr, rules}
use Rattle.std.specs.Prelude.{IfOk, Ok, Err, codes}
use Rattle.std.specs.Int.Signed.{le_z}
use Rattle.std.proofs.lemmas.Bool.{cases_Bool}
use Rattle.sky_units.specs.Ranges.{IsBetween}
use Rattle.sky_units.specs.SettingNames.{is_text, set_named}
use Rattle.sky_units.specs.SettingsData.{AreSettings, SettingsData}
use Rattle.sky_units.specs.declared.setting_names.SetError.TheVariants as errors

tested : (low high v : ℤ) (new : SettingsData) → (IsBetween low high v → AreSettings new) → IfOk (if le_z low v && le_z v high then Ok new else Err errors.Range) AreSettings
tested low high v new keeps = by_test (le_z low v) (le_z v high) refl refl
  where
    by_test : (a b : Bool) → le_z low v ≡ a → le_z v high ≡ b → IfOk (if a && b then Ok new else Err errors.Range) AreSettings
    by_test true true p q = keeps (record { from = record { le = rw p tt }; to = record { le = rw q tt } })
    by_test true false p q = tt
    by_test false b p q = tt

pub set_in_range : (name : List ℕ) (v : ℤ) (s : SettingsData) → AreSettings s → IfOk (set_named name v s) AreSettings
set_in_range name v s are =
    elim (cases_Bool (is_text name (codes "tol_ra"))) [
      | inl t ↦ rw t (tested (pos 0) (pos 100000) v (record s { tol_ra = v }) (λ h. search rules))
      | inr f ↦ rw f (
          elim (cases_Bool (is_text name (codes "tol_dec"))) [
            | inl t ↦ rw t (tested (pos 0) (pos 100000) v (record s { tol_dec = v }) (λ h. search rules))
            | inr f ↦ rw f (
                elim (cases_Bool (is_text name (codes "acc_ra"))) [
                  | inl t ↦ rw t (tested (pos 0) (pos 1000000) v (record s { acc_ra = v }) (λ h. search rules))
                  | inr f ↦ rw f (
                      elim (cases_Bool (is_text name (codes "acc_dec"))) [
                        | inl t ↦ rw t (tested (pos 0) (pos 1000000) v (record s { acc_dec = v }) (λ h. search rules))
                        | inr f ↦ rw f (
                            elim (cases_Bool (is_text name (codes "rate_ra"))) [
                              | inl t ↦ rw t (tested (pos 0) (pos 10000000) v (record s { rate_ra = v }) (λ h. search rules))
                              | inr f ↦ rw f (
                                  elim (cases_Bool (is_text name (codes "rate_dec"))) [
                                    | inl t ↦ rw t (tested (pos 0) (pos 10000000) v (record s { rate_dec = v }) (λ h. search rules))
                                    | inr f ↦ rw f (
                                        elim (cases_Bool (is_text name (codes "line_tol"))) [
                                          | inl t ↦ rw t (tested (pos 0) (pos 100000) v (record s { line_tol = v }) (λ h. search rules))
                                          | inr f ↦ rw f (
                                              elim (cases_Bool (is_text name (codes "purge_tol"))) [
                                                | inl t ↦ rw t (tested (pos 0) (pos 100000) v (record s { purge_tol = v }) (λ h. search rules))
                                                | inr f ↦ rw f (
                                                    elim (cases_Bool (is_text name (codes "pair_gap"))) [
                                                      | inl t ↦ rw t (tested (pos 1) (pos 1000000) v (record s { pair_gap = v }) (λ h. search rules))
                                                      | inr f ↦ rw f (
                                                          elim (cases_Bool (is_text name (codes "night_shift"))) [
                                                            | inl t ↦ rw t (tested (pos 0) (pos 999999) v (record s { night_shift = v }) (λ h. search rules))
                                                            | inr f ↦ rw f (
                                                                elim (cases_Bool (is_text name (codes "stages"))) [
                                                                  | inl t ↦ rw t (tested (pos 1) (pos 3) v (record s { stages = v }) (λ h. search rules))
                                                                  | inr f ↦ rw f (
                                                                      tt
                                                                      )
                                                                ]
                                                                )
                                                          ]
                                                          )
                                                    ]
                                                    )
                                              ]
                                              )
                                        ]
                                        )
                                  ]
                                  )
                            ]
                            )
                      ]
                      )
                ]
                )
          ]
          )
    ]
