-- The answer to one line.
use Rattle.std.proofs.Common.{◌≡◌, ◌≢◌, ◌⊎◌, Bool, true, false, Option, None, refl, sym, List, [], ◌++◌, Some, ℕ, get_or, Result, Ok}
use Rattle.std.proofs.Common.{Err, IfOk, inl, inr, subst, ap, ◌∙◌, ◌<◌, length}
use Rattle.std.specs.Prelude.{MatchOption, is_some}
use Rattle.std.specs.List.{slice_get, position}
use Rattle.std.proofs.lemmas.Bool.{false≢true}
use Rattle.std.specs.Option.{option_map, option_or}
use Rattle.std.proofs.lemmas.Option.{slice_get_read, slice_get_within}
use Rattle.icu_locale.specs.LikelyTable.{likely}
use Rattle.icu_locale.specs.Negotiation.{Negotiation, IsNegotiated}
use Rattle.icu_locale_lines.specs.Lists.{IsNegotiatedLine, SpellsIn, IsFault, IsFaultIn, TellsPlace, shown_at}
use Rattle.icu_locale_core.specs.Identifier.{IsIdentifier, Spells, parse_error_name, written}
use Rattle.icu_locale_core.specs.declared.parse_error.ParseError.{ParseError}
use Rattle.icu_locale_core.specs.declared.parse_error.ParseError.TheVariants as parse_error
use Rattle.icu_locale_core.specs.declared.langid.LanguageIdentifier.{LanguageIdentifier}
use Rattle.icu_locale_core.specs.declared.locale.Locale.{Locale}
use Rattle.icu_locale.specs.Canonical.{IsCanonical, is_applied, answer_of, without_extensions}
use Rattle.icu_locale.specs.Refusals.{IsRefusal}
use Rattle.icu_locale.specs.LikelySubtags.{LikelySubtags}
use Rattle.icu_locale.specs.declared.canonicalizer.CanonicalizeError.{CanonicalizeError}
use Rattle.icu_locale.specs.declared.canonicalizer.CanonicalizeError.TheVariants.{Memory, NoFixedPoint, NoSubdivisionFixedPoint}
use Rattle.icu_locale.specs.declared.canonicalizer.rules.Rules.{Rules}
use Rattle.icu_locale.specs.declared.expander.TransformResult.{TransformResult}
use Rattle.icu_locale_extensions.specs.Locales as extended
use Rattle.icu_locale_extensions.specs.declared.identifier.LocaleIdentifier.{LocaleIdentifier}
use Rattle.icu_locale_extensions.specs.declared.syntax.Syntax.{Syntax}
use Rattle.icu_provider.specs.declared.error.DataError.{DataError}
use Rattle.icu_provider.specs.declared.error.DataErrorKind.{DataErrorKind}
use Rattle.icu_provider.specs.declared.error.DataErrorKind.TheVariants as kind
use Rattle.icu_locale_lines.specs.declared.error.CliError.{CliError}
use Rattle.icu_locale_lines.specs.Answers.{AddsLine, IsAnswerOf, IsCanonicalAnswer, IsCanonicalized, IsCanonicalizedTo, IsLocaleAnswer}
use Rattle.icu_locale_lines.specs.Locales.{is_tab, is_readable, keywords_of, SpellsLocale, IsLocaleFault}
use Rattle.icu_locale_lines.specs.Texts.{refused_line}
use Rattle.icu_locale_lines.specs.Wholes.{IsWholeCanonicalized}
use Rattle.icu_locale_lines.specs.inner.Parts.{TellsRefusal}
use Rattle.icu_locale_values.specs.Whole.{WholeRules}
use Rattle.icu_locale_lines.proofs.LineCuts.{before_first-no_position}
use Rattle.icu_locale_lines.proofs.LocaleLines.{value_text-no_position}

-- what is appended to the others is a line of another kind too
pub if_adds : (P Q : List ℕ → Bool → Type 0) → ((t : List ℕ) (a : Bool) → P t a → Q t a) → (old new : List ℕ) (r : Result Bool CliError)
    → IfOk r (AddsLine P old new) → IfOk r (AddsLine Q old new)
if_adds P Q more old new (Ok a) h = record { line = h.line; added = h.added; is = more h.line a h.is }
if_adds P Q more old new (Err e) h = tt

-- a line that is put after none is alone
pub if_alone : (P : List ℕ → Bool → Type 0) (old new : List ℕ) → old ≡ [] → (r : Result Bool CliError) → IfOk r (AddsLine P old new) → IfOk r (P new)
if_alone P old new none (Ok a) h = subst (λ t. P t a) (sym (h.added ∙ ap (λ t. t ++ h.line) none)) h.is
if_alone P old new none (Err e) h = tt

-- the line of a refusal
pub if_fault : (Q : List ℕ → Bool → Type 0) (e : ParseError) → (IsFault : Type 0) → (e ≡ parse_error.Memory) ⊎ IsFault
    → ((t : List ℕ) (a : Bool) → IsFault → (t ≡ refused_line (parse_error_name e)) → (a ≡ false) → Q t a) → (old new : List ℕ) (r : Result Bool CliError)
    → IfOk r (AddsLine (λ t a. (t ≡ refused_line (parse_error_name e)) × (a ≡ false)) old new) → IfOk r (λ _. e ≢ parse_error.Memory)
    → IfOk r (AddsLine Q old new)
if_fault Q e IsFault (inl memory) more old new (Ok a) h told = absurd (told memory)
if_fault Q e IsFault (inr fault) more old new (Ok a) h told = record { line = h.line; added = h.added; is = more h.line a fault h.is.0 h.is.1 }
if_fault Q e IsFault why more old new (Err e') h told = tt

abbrev kind_of : {T : Type 0} → Result T DataError → DataErrorKind
kind_of (Ok x) = kind.Memory
kind_of (Err e) = e.kind

-- want of memory has no line
pub if_unnamed : {T : Type 0} (e : DataError) → ◌≡◌ {A = Result T DataError} (Err e) (Err (record { kind = kind.Memory }))
    → (Q : List ℕ → Bool → Type 0) (old new : List ℕ) (r : Result Bool CliError)
    → IfOk r (λ _. e.kind ≢ kind.Memory) → IfOk r (AddsLine Q old new)
if_unnamed e lacks Q old new (Ok a) told = absurd (told (ap kind_of lacks))
if_unnamed e lacks Q old new (Err x) told = tt

module _ (line_of : Locale → TransformResult → List ℕ) (likely : LikelySubtags) (rules : Rules) (old : Locale) where
  -- the line of a canonical locale
  pub canonicalized_from_line : (new : Locale) (m : TransformResult) → IsCanonical likely rules old new
      → m ≡ answer_of (is_applied likely rules old) → (t : List ℕ) (a : Bool) → (t ≡ line_of new m) × (a ≡ true)
      → IsCanonicalizedTo line_of likely rules old t a
  canonicalized_from_line new m canonical answer t a h = inl (new, canonical, subst (λ k. t ≡ line_of new k) answer h.0, h.1)

  -- the line of what comes again
  pub refused_from_line : (refusal : CanonicalizeError) → IsRefusal likely rules old refusal → (t : List ℕ) (a : Bool)
      → TellsRefusal refusal t a → IsCanonicalizedTo line_of likely rules old t a
  refused_from_line Memory why t a h = absurd h
  refused_from_line (NoFixedPoint z) why t a h = inr (inl (z, why, h.0, h.1))
  refused_from_line (NoSubdivisionFixedPoint v) why t a h = inr (inr (v, why, h.0, h.1))

module _ (IsLine : LanguageIdentifier → List ℕ → Bool → Type 0) (line : List ℕ) where
  -- the line of the identifier that a line spells
  pub answer_in : (syntax : Option Syntax) (x : LanguageIdentifier) → SpellsIn syntax line x → (t : List ℕ) (a : Bool) → IsLine x t a
      → IsAnswerOf syntax IsLine (λ w. IsLine w.locale.id) line t a
  answer_in None x spells t a is = inl (x, spells, is)
  answer_in (Some s) x (whole, known, spells, same) t a is = inl (whole, (known, spells), subst (λ i. IsLine i t a) (sym same) is)

  -- the line of why it spells none
  pub refused_in : (syntax : Option Syntax) (e : ParseError) (t : List ℕ) (a : Bool) → IsFaultIn syntax line e
      → t ≡ refused_line (parse_error_name e) → a ≡ false
      → IsAnswerOf syntax IsLine (λ w. IsLine w.locale.id) line t a
  refused_in None e t a fault text failed = inr (e, fault, text, failed)
  refused_in (Some s) e t a fault text failed = inr (e, fault, text, failed)

-- a line without a tab spells a locale without extensions
pub spelled_alone : (line : List ℕ) (x : LanguageIdentifier) → position is_tab line ≡ None → IsIdentifier x × Spells line x
    → SpellsLocale line (without_extensions x)
spelled_alone line x none spelled = record {
  known = spelled.0;
  id = subst (λ t. Spells t x) (sym (before_first-no_position is_tab line none)) spelled.1;
  readable = ap is_readable (value_text-no_position line none);
  keywords = sym (ap keywords_of (value_text-no_position line none));
  transform = refl;
}

-- without a tab a line that spells no identifier spells no locale
pub locale_fault : (line : List ℕ) → position is_tab line ≡ None → (e : ParseError) → IsFault line e → IsLocaleFault line e
locale_fault line none e fault = record { fault = inl (subst (λ t. IsFault t e) (sym (before_first-no_position is_tab line none)) fault) }

-- whether a line is read as an identifier and a value
abbrev TellsValue : Option Syntax → List ℕ → Bool → Type 0
TellsValue syntax line has = MatchOption syntax (has ≡ is_some (position is_tab line)) (λ s. has ≡ false)

none_is : (o : Option ℕ) → false ≡ is_some o → o ≡ None
none_is None is = refl
none_is (Some n) is = absurd (false≢true is)

module _ (by : WholeRules) (line : List ℕ) (has : Bool) where
  -- a line that is, without a syntax
  pub canonical_from_value : (syntax : Option Syntax) → TellsValue syntax line has → has ≡ true → (t : List ℕ) (a : Bool)
      → IsLocaleAnswer by.likely by.rules line t a → IsCanonicalAnswer syntax by line t a
  canonical_from_value None tells value t a h = h
  canonical_from_value (Some s) tells value t a h = absurd (false≢true (sym tells ∙ value))

  -- any other
  pub canonical_from_read : (syntax : Option Syntax) → TellsValue syntax line has → has ≡ false → (t : List ℕ) (a : Bool)
      → IsAnswerOf syntax (λ x. IsCanonicalized by.likely by.rules (without_extensions x)) (IsWholeCanonicalized by) line t a
      → IsCanonicalAnswer syntax by line t a
  canonical_from_read None tells plain t a (inl h) =
      inl (without_extensions h.0, spelled_alone line h.0 (none_is (position is_tab line) (sym plain ∙ tells)) h.1, h.2)
  canonical_from_read None tells plain t a (inr h) =
      inr (h.0, locale_fault line (none_is (position is_tab line) (sym plain ∙ tells)) h.0 h.1, h.2, h.3)
  canonical_from_read (Some s) tells plain t a h = h

-- what is negotiated is available at its place
pub negotiated_within : (n : Negotiation) (requests : List LanguageIdentifier) (i j : ℕ)
    → IsNegotiated (likely n.expander) requests n.available (Some (i, j)) → j < length n.available
negotiated_within n requests i j negotiated =
    slice_get_within n.available j negotiated.matches.identifier negotiated.matches.offered

-- the line of a match is that of what was negotiated
pub negotiated_from_line : (n : Negotiation) (wholes : List LocaleIdentifier) (requests : List LanguageIdentifier) (i j : ℕ)
    → IsNegotiated (likely n.expander) requests n.available (Some (i, j))
    → (t : List ℕ) (a : Bool) → TellsPlace n.available wholes i j t × (a ≡ true) → IsNegotiatedLine n wholes requests t a
negotiated_from_line n wholes requests i j negotiated t a h = (Some (i, j), negotiated, h.0, h.1)

-- ---- how what is available is written

module _ (available : List LanguageIdentifier) (wholes : List LocaleIdentifier) (place : ℕ) where
  -- whole where that is kept
  pub shown_whole : (x : LocaleIdentifier) → slice_get wholes place ≡ Some x → shown_at available wholes place ≡ Some (extended.written x)
  shown_whole x here = ap (λ o. option_or (option_map extended.written o) (option_map written (slice_get available place))) here

  -- and else as an identifier
  pub shown_alone : slice_get wholes place ≡ None → (x : LanguageIdentifier) → place < length available → x ≡ get_or available place x
      → shown_at available wholes place ≡ Some (written x)
  shown_alone none x within here =
      ap (λ o. option_or (option_map extended.written o) (option_map written (slice_get available place))) none
      ∙ ap (option_map written) (slice_get_read available (length available) place x refl within here)
