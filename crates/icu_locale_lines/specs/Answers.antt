-- What is written for each line that is read.
use Rattle.std.specs.Prelude.{◌≡◌, ◌≢◌, ◌↔◌, ◌⊎◌, ℕ, Bool, true, false, List, ◌++◌, take, length, codes, Option, None, Some, MatchOption}
use Rattle.std.specs.List.{list_any, position}
use Rattle.icu_locale_core.specs.Identifier.{IsIdentifier, Spells, parse_error_name, pieces, written}
use Rattle.icu_locale_core.specs.declared.langid.LanguageIdentifier.{LanguageIdentifier}
use Rattle.icu_locale_core.specs.declared.locale.Locale.{Locale}
use Rattle.icu_locale.specs.LikelySubtags.{LikelySubtags, maximal, IsModified, likely_script}
use Rattle.icu_locale.specs.Minimal.{IsMinimalForm}
use Rattle.icu_locale.specs.declared.expander.Favor.TheVariants.{RegionFirst, ScriptFirst}
use Rattle.icu_locale.specs.LikelyTable.{likely}
use Rattle.icu_locale.specs.Canonical.{IsCanonical, is_applied, answer_of}
use Rattle.icu_locale.specs.Refusals.{ComesAgainFirst, ValueComesAgainFirst}
use Rattle.icu_locale.specs.Direction.{direction_of}
use Rattle.icu_locale.specs.declared.canonicalizer.rules.Rules.{Rules}
use Rattle.icu_locale.specs.declared.expander.TransformResult.{TransformResult}
use Rattle.icu_locale.specs.declared.expander.TransformResult.TheVariants.{Modified}
use Rattle.icu_locale.specs.declared.directionality.LocaleDirectionality.{LocaleDirectionality}
use Rattle.icu_locale.specs.declared.expander.LocaleExpander.{LocaleExpander}
use Rattle.icu_locale_lines.specs.declared.work.name.Naming.{Naming}
use Rattle.icu_locale_lines.specs.declared.work.form.Form.{Form}
use Rattle.icu_locale_lines.specs.declared.work.form.Form.TheVariants.{Maximize, Minimize, MinimizeScript}
use Rattle.icu_locale_lines.specs.declared.work.Work.{Work}
use Rattle.icu_locale_lines.specs.declared.work.Tools.{Tools}
use Rattle.icu_locale_lines.specs.declared.work.Tools.TheVariants as tools
use Rattle.icu_locale_lines.specs.Chains.{IsChained}
use Rattle.icu_locale_lines.specs.Lists.{listed, SpellsAll, SpellsIn, SpellsWhole, IsFault, IsListedAnswer, IsNegotiatedLine}
use Rattle.icu_locale_lines.specs.Serving.{IsWishAnswer, IsDistanceLine}
use Rattle.icu_locale_lines.specs.Wholes.{IsCanonicalThen, IsKeyed, IsWholeCanonicalized, keyed}
use Rattle.icu_locale_values.specs.Whole.{WholeRules, whole_rules}
use Rattle.icu_locale_values.specs.declared.canonicalizer.WholeCanonicalizer.{WholeCanonicalizer}
use Rattle.icu_locale_lines.specs.declared.command.Wishes.{Wishes}
use Rattle.icu_locale_lines.specs.declared.command.Wishes.TheVariants.{Header}
use Rattle.icu_locale_lines.specs.Locales.{is_tab, SpellsLocale, IsLocaleFault}
use Rattle.icu_locale_lines.specs.Names.{name_asked, whole_name_asked, IsNamedLine}
use Rattle.icu_locale_lines.specs.Readings.{IsReadAnswer}
use Rattle.icu_locale_lines.specs.SubtagLists.{IsListedLine}
use Rattle.icu_locale_lines.specs.Subtags.{IsToldLine, exemplar_answer, subtag_answer}
use Rattle.icu_locale_validity.specs.Reports.{report_of}
use Rattle.icu_locale_validity.specs.declared.table.Validity.{Validity}
use Rattle.icu_locale_lines.specs.Texts.{changed_line, canonical_line, placed_line, refused_line, direction_line}
use Rattle.icu_locale_lines.specs.declared.work.places.Place.{Place}
use Rattle.icu_locale_extensions.specs.Built.{bare}
use Rattle.icu_locale_extensions.specs.Extensions.{is_singleton}
use Rattle.icu_locale_extensions.specs.Locales as extended
use Rattle.icu_locale_extensions.specs.Syntaxes.{IsFaultBy}
use Rattle.icu_locale_extensions.specs.declared.identifier.LocaleIdentifier.{LocaleIdentifier}
use Rattle.icu_locale_extensions.specs.declared.syntax.Syntax.{Syntax}
use Rattle.icu_locale_extensions.specs.declared.syntax.Syntax.TheVariants.{Unicode}
use Rattle.icu_locale_parts.specs.Parts.{identifier_parts_text, parts_text}
use Rattle.icu_locale_places.specs.Places.{IsWrongAt}

-- a line is appended to what stood before, and it is such a line
pub record AddsLine (IsLine : List ℕ → Bool → Type 0) (old new : List ℕ) (accepted : Bool)
    : Type 0 where
  pub line : List ℕ
  pub added : new ≡ old ++ line
  pub is : IsLine line accepted

-- what stood before is still in front
abbrev pub Keeps : (old new : List ℕ) → Type 0
Keeps old new = take (length old) new ≡ old

-- an identifier's form, and whether it was changed
abbrev pub IsForm : Form → LikelySubtags → LanguageIdentifier → LanguageIdentifier
    → TransformResult → Type 0
IsForm Maximize likely x y m = (y ≡ maximal likely x) × ((m ≡ Modified) ↔ IsModified likely x)
IsForm Minimize likely x y m =
    IsMinimalForm RegionFirst likely x y × ((m ≡ Modified) ↔ (y ≢ x))
IsForm MinimizeScript likely x y m =
    IsMinimalForm ScriptFirst likely x y × ((m ≡ Modified) ↔ (y ≢ x))

-- the line of what has an identifier, which is brought to a form
abbrev pub IsFormedLine : {A : Type 0} → (id : A → LanguageIdentifier)
    → (written_with : A → LanguageIdentifier → List ℕ) → Form → LikelySubtags → A → List ℕ
    → Bool → Type 0
IsFormedLine id written_with form likely x text accepted = (y : LanguageIdentifier)
    × (m : TransformResult) × IsForm form likely (id x) y m
    × (text ≡ changed_line (written_with x y) m) × (accepted ≡ true)

-- the line of an identifier that is brought to a form
abbrev pub IsTransformed : Form → LikelySubtags → LanguageIdentifier → List ℕ → Bool → Type 0
IsTransformed form likely x text accepted =
    IsFormedLine (λ x. x) (λ x y. written y) form likely x text accepted

-- the line of an identifier whose direction is told
abbrev pub IsDirected : LocaleDirectionality LocaleExpander → LanguageIdentifier → List ℕ → Bool
    → Type 0
IsDirected d x text accepted = (text
    ≡ direction_line (direction_of d.script_direction.now (likely_script (likely d.expander) x)))
    × (accepted ≡ true)

-- the line of an identifier that is named
abbrev pub IsNamed : Naming → LanguageIdentifier → List ℕ → Bool → Type 0
IsNamed n x text accepted = IsNamedLine (name_asked n x) text accepted

-- the line of a locale identifier that is named: where there are rules, its canonical form is (UTS #35
-- Part 2, Locale Display Name Algorithm)
abbrev pub IsNamedWith : Naming → Option WholeCanonicalizer → LocaleIdentifier → List ℕ → Bool
    → Type 0
IsNamedWith n None x text accepted = IsNamedLine (whole_name_asked n x) text accepted
IsNamedWith n (Some by) x text accepted =
    IsCanonicalThen (λ new. IsNamedLine (whole_name_asked n new)) (whole_rules by) x text accepted

abbrev pub IsWholeNamed : Naming → LocaleIdentifier → List ℕ → Bool → Type 0
IsWholeNamed n x text accepted = IsNamedWith n n.canonicalizer x text accepted

-- the line of an identifier whose parts are told, and that of a locale identifier
abbrev pub IsParted : LanguageIdentifier → List ℕ → Bool → Type 0
IsParted x text accepted = (text ≡ identifier_parts_text x ++ codes "\n") × (accepted ≡ true)

abbrev pub IsWholeParted : LocaleIdentifier → List ℕ → Bool → Type 0
IsWholeParted x text accepted = (text ≡ parts_text x ++ codes "\n") × (accepted ≡ true)

-- the line of a locale identifier whose validity is told
abbrev pub IsReported : Validity → List ℕ → LocaleIdentifier → List ℕ → Bool → Type 0
IsReported v line x text accepted =
    (text ≡ report_of v line x ++ codes "\n") × (accepted ≡ true)

-- the rules come to no end, and that is refused by name
abbrev pub IsEndless : LikelySubtags → Rules → Locale → List ℕ → Bool → Type 0
IsEndless likely rules old text accepted =
    ((z : LanguageIdentifier) × ComesAgainFirst likely rules old z
    × (text ≡ refused_line (codes "NoFixedPoint")) × (accepted ≡ false))
    ⊎ ((v : List (List ℕ)) × ValueComesAgainFirst likely rules old v
    × (text ≡ refused_line (codes "NoSubdivisionFixedPoint")) × (accepted ≡ false))

-- the locale becomes canonical and has its line, or the rules come to no end
abbrev pub IsCanonicalizedTo : (Locale → TransformResult → List ℕ) → LikelySubtags → Rules → Locale
    → List ℕ → Bool → Type 0
IsCanonicalizedTo line_of likely rules old text accepted =
    ((new : Locale) × IsCanonical likely rules old new
    × (text ≡ line_of new (answer_of (is_applied likely rules old)))
    × (accepted ≡ true))
    ⊎ IsEndless likely rules old text accepted

-- the same with the line of an identifier and its value
abbrev pub IsCanonicalized : LikelySubtags → Rules → Locale → List ℕ → Bool → Type 0
IsCanonicalized likely rules old text accepted =
    IsCanonicalizedTo canonical_line likely rules old text accepted

-- a line that spells an identifier gives its line; every other gives the refusal's
abbrev pub IsIdentifierAnswer : (LanguageIdentifier → List ℕ → Bool → Type 0) → List ℕ → List ℕ
    → Bool → Type 0
IsIdentifierAnswer IsLine line text accepted =
    IsReadAnswer (SpellsIn None) IsFault IsLine line text accepted

-- a line that spells a locale gives the line of its canonical form; every other gives the refusal's
abbrev pub IsLocaleAnswer : LikelySubtags → Rules → List ℕ → List ℕ → Bool → Type 0
IsLocaleAnswer likely rules line text accepted =
    IsReadAnswer SpellsLocale IsLocaleFault (IsCanonicalized likely rules) line text accepted

-- ---- locale identifiers

-- a locale identifier with another locale, and with another identifier
abbrev pub with_locale : LocaleIdentifier → Locale → LocaleIdentifier
with_locale x locale = record {
  locale = locale;
  attributes = x.attributes;
  fields = x.fields;
  others = x.others;
  private_use = x.private_use;
}

abbrev pub with_id : LocaleIdentifier → LanguageIdentifier → LocaleIdentifier
with_id x id = with_locale x (record { id = id; extensions = x.locale.extensions })

-- the line of a locale identifier whose identifier is brought to a form
abbrev pub IsWholeTransformed : Form → LikelySubtags → LocaleIdentifier → List ℕ → Bool
    → Type 0
IsWholeTransformed form likely x text accepted = IsFormedLine (λ x. x.locale.id)
    (λ x y. extended.written (with_id x y)) form likely x text accepted

-- a line that spells a locale identifier gives its line; every other gives the refusal's
abbrev pub IsSpelledAnswer : Syntax → (LocaleIdentifier → List ℕ → Bool → Type 0) → List ℕ → List ℕ
    → Bool → Type 0
IsSpelledAnswer syntax IsLine line text accepted =
    IsReadAnswer (SpellsWhole syntax) (IsFaultBy syntax) IsLine line text accepted

-- without a syntax a line is an identifier alone, in one a locale identifier; each has its line
abbrev pub IsAnswerOf : Option Syntax → (LanguageIdentifier → List ℕ → Bool → Type 0)
    → (LocaleIdentifier → List ℕ → Bool → Type 0) → List ℕ → List ℕ → Bool → Type 0
IsAnswerOf syntax IsLine IsWhole line text accepted =
    MatchOption syntax (IsIdentifierAnswer IsLine line text accepted)
    (λ s. IsSpelledAnswer s IsWhole line text accepted)

-- the answer to a line that is brought to its canonical form; without a syntax it may have a value
-- after its identifier
abbrev pub IsCanonicalAnswer : Option Syntax → WholeRules → List ℕ → List ℕ → Bool → Type 0
IsCanonicalAnswer syntax by line text accepted =
    MatchOption syntax (IsLocaleAnswer by.likely by.rules line text accepted)
    (λ s. IsSpelledAnswer s (IsWholeCanonicalized by) line text accepted)

-- the answer to a line, or to a line that lists some: extensions are written as they are, and have
-- no part in a direction, in what is decided of a list, or in a name where it is not known what they
-- are called
abbrev pub IsAnswerBy : Option Syntax → Tools → List ℕ → List ℕ → Bool → Type 0
IsAnswerBy syntax (tools.Form form e) line text accepted = IsAnswerOf syntax
    (IsTransformed form (likely e)) (IsWholeTransformed form (likely e)) line text accepted
IsAnswerBy syntax (tools.Canonicalize k) line text accepted =
    IsCanonicalAnswer syntax (whole_rules k) line text accepted
IsAnswerBy syntax (tools.Direction d) line text accepted =
    IsAnswerOf syntax (IsDirected d) (λ x. IsDirected d x.locale.id) line text accepted
IsAnswerBy syntax (tools.Negotiate negotiation offered) line text accepted = IsListedAnswer syntax
    (IsNegotiatedLine negotiation offered.now.wholes.items) line text accepted
IsAnswerBy syntax (tools.Name n) line text accepted =
    IsAnswerOf syntax (IsNamed n) (IsWholeNamed n) line text accepted
IsAnswerBy syntax (tools.Fallback f) line text accepted =
    IsAnswerOf syntax (IsChained f) (λ x. IsChained f x.locale.id) line text accepted
IsAnswerBy syntax (tools.Serve how s offered) line text accepted =
    IsWishAnswer syntax how s offered.now.wholes.items line text accepted
IsAnswerBy syntax (tools.Distance e matching) line text accepted =
    IsListedAnswer syntax (IsDistanceLine matching.now (likely e)) line text accepted
IsAnswerBy syntax tools.Parts line text accepted =
    IsAnswerOf syntax IsParted IsWholeParted line text accepted
IsAnswerBy syntax (tools.Key of k) line text accepted =
    IsAnswerOf syntax (λ x. IsKeyed (whole_rules k) (bare x))
    (λ x. IsKeyed (whole_rules k) (keyed of x)) line text accepted
IsAnswerBy syntax (tools.Validate v) line text accepted = IsAnswerOf syntax
    (λ x. IsReported v.now line (bare x)) (IsReported v.now line) line text accepted
IsAnswerBy syntax (tools.SubtagName n) line text accepted =
    IsToldLine (subtag_answer n line) text accepted
IsAnswerBy syntax (tools.Exemplars set) line text accepted =
    IsToldLine (exemplar_answer set.now line) text accepted
IsAnswerBy syntax (tools.Subtags list) line text accepted = IsListedLine list line text accepted

-- the place of the fault of a line, if it is no locale identifier in the syntax of UTS #35
abbrev pub IsPlaceOf : List ℕ → Option Place → Type 0
IsPlaceOf line None = (x : LocaleIdentifier) × SpellsWhole Unicode line x
IsPlaceOf line (Some place) =
    IsFaultBy Unicode line place.refusal × IsWrongAt line place.from place.to

-- a line with its place, if it has one
abbrev pub told : (plain : List ℕ) → Option Place → List ℕ
told plain None = plain
told plain (Some place) = placed_line (parse_error_name place.refusal) place.from place.to

-- what is answered where places are told: a line that is refused has its place, if it has one
abbrev pub IsTold : List ℕ → (plain : List ℕ) → Bool → List ℕ → Type 0
IsTold line plain true text = text ≡ plain
IsTold line plain false text =
    (place : Option Place) × IsPlaceOf line place × (text ≡ told plain place)

-- the answer to a line, with places or without
abbrev pub IsAnswerAt : (places : Bool) → Option Syntax → Tools → List ℕ → List ℕ → Bool → Type 0
IsAnswerAt false syntax tools line text accepted = IsAnswerBy syntax tools line text accepted
IsAnswerAt true syntax tools line text accepted =
    (plain : List ℕ) × IsAnswerBy syntax tools line plain accepted
    × IsTold line plain accepted text

-- the answer to a line
abbrev pub IsAnswer : Work → List ℕ → List ℕ → Bool → Type 0
IsAnswer work line text accepted =
    IsAnswerAt work.places work.syntax work.tools line text accepted

-- a line lists identifiers alone
abbrev pub ListsIdentifiers : List ℕ → Type 0
ListsIdentifiers line = (xs : List LanguageIdentifier) × SpellsAll None (listed line) xs

-- a line wishes identifiers alone; a header is one in each syntax
abbrev pub WishesIdentifiers : Wishes → List ℕ → Type 0
WishesIdentifiers Header line = Unit {0}
WishesIdentifiers wishes line = ListsIdentifiers line

-- a line holds one identifier alone, without a value
abbrev pub HoldsIdentifier : List ℕ → Type 0
HoldsIdentifier line = (position is_tab line ≡ None)
    × (x : LanguageIdentifier) × IsIdentifier x × Spells line x

-- a line holds identifiers alone: one, or any number where the task takes a list; names are not
-- those of canonical forms, which a line without a syntax has not
abbrev pub HoldsIdentifiers : Tools → List ℕ → Type 0
HoldsIdentifiers (tools.Negotiate negotiation offered) line = ListsIdentifiers line
HoldsIdentifiers (tools.Serve how s offered) line = WishesIdentifiers how.wishes line
HoldsIdentifiers (tools.Distance e matching) line = ListsIdentifiers line
HoldsIdentifiers (tools.Name n) line = (n.canonicalizer ≡ None) × HoldsIdentifier line
HoldsIdentifiers tools line = HoldsIdentifier line

-- a text has a piece of one character
abbrev pub has_singleton : List ℕ → Bool
has_singleton text = list_any is_singleton (pieces text)

-- no text that a line lists has one
abbrev pub ListsNoSingleton : List ℕ → Type 0
ListsNoSingleton line = list_any has_singleton (listed line) ≡ false

-- no text that a line wishes has one; a header may have any
abbrev pub WishesNoSingleton : Wishes → List ℕ → Type 0
WishesNoSingleton Header line = Unit {0}
WishesNoSingleton wishes line = ListsNoSingleton line

-- a line has no piece of one character, nor has a text of a line that the task takes for a list; at
-- `canonicalize` it has no tab, and names are not those of canonical forms
abbrev pub HasNoSingleton : Tools → List ℕ → Type 0
HasNoSingleton (tools.Negotiate negotiation offered) line = ListsNoSingleton line
HasNoSingleton (tools.Serve how s offered) line = WishesNoSingleton how.wishes line
HasNoSingleton (tools.Distance e matching) line = ListsNoSingleton line
HasNoSingleton (tools.Canonicalize k) line =
    (position is_tab line ≡ None) × (has_singleton line ≡ false)
HasNoSingleton (tools.Name n) line = (n.canonicalizer ≡ None) × (has_singleton line ≡ false)
HasNoSingleton tools line = has_singleton line ≡ false
