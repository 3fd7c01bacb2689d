-- Which candidates stand for others.
use Rattle.std.specs.Prelude.{◌≡◌, ◌⊎◌, ℕ, ◌<◌, ◌≤◌, true, false, List, Some}
use Rattle.std.specs.List.{slice_get}
use Rattle.icu_locale_core.specs.declared.langid.LanguageIdentifier.{LanguageIdentifier}
use Rattle.icu_provider.specs.declared.data_locale.DataLocale.{DataLocale}
use Rattle.icu_provider.specs.declared.matching.MatchRule.{MatchRule}
use Rattle.icu_provider.specs.declared.matching.LanguageMatching.{LanguageMatching}
use Rattle.icu_locale_matching.specs.Distance.{fits_pattern, levels_for}
use Rattle.icu_locale_matching.specs.declared.candidates.Candidate.{Candidate}

-- the supported pattern of each rule fits both forms, or neither
abbrev pub AreAlike : List MatchRule → DataLocale → DataLocale → Type 0
AreAlike rules x y = (k : ℕ) (r : MatchRule) → slice_get rules k ≡ Some r
    → fits_pattern r.supported x ≡ fits_pattern r.supported y

-- the available identifiers at two places have the same variants
abbrev pub VaryAlike : List LanguageIdentifier → ℕ → ℕ → Type 0
VaryAlike xs i j = (x y : LanguageIdentifier) → slice_get xs i ≡ Some x → slice_get xs j ≡ Some y
    → x.variants ≡ y.variants

-- one candidate stands for another: neither has a macro region, each request of their language is as far from both, if it
-- has the region of neither, and the first comes no later in each step of the order
pub record Leads (t : LanguageMatching) (xs : List LanguageIdentifier) (l c : Candidate) : Type 0 where
  pub language : l.form.language ≡ c.form.language
  pub script : l.form.script ≡ c.form.script
  pub leader : l.is_macro ≡ false
  pub led : c.is_macro ≡ false
  pub likely : l.unlikeliness ≤ c.unlikeliness
  pub paradigm : l.off_paradigm ≡ true → c.off_paradigm ≡ true
  pub place : l.place ≤ c.place
  pub variants : VaryAlike xs l.place c.place
  pub scripts : AreAlike (levels_for t c.form.language).script.rules l.form c.form
  pub regions : AreAlike (levels_for t c.form.language).region.rules l.form c.form

-- a candidate is one of some, or one of them stands for it
pub record HasLeader (t : LanguageMatching) (xs : List LanguageIdentifier) (leading : List Candidate)
    (c : Candidate) : Type 0 where
  pub at : ℕ
  pub leader : Candidate
  pub stands : slice_get leading at ≡ Some leader
  pub leads : (leader ≡ c) ⊎ Leads t xs leader c

-- some candidates lead the first n of these: they are among them, and each of these has a leader
pub record AreLeading (t : LanguageMatching) (xs : List LanguageIdentifier) (forms : List Candidate)
    (n : ℕ) (leading : List Candidate) : Type 0 where
  pub among : (j : ℕ) (l : Candidate) → slice_get leading j ≡ Some l
      → (k : ℕ) × (slice_get forms k ≡ Some l)
  pub each : (k : ℕ) (c : Candidate) → k < n → slice_get forms k ≡ Some c
      → HasLeader t xs leading c
