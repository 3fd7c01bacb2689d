-- What the calls of negotiation answer.
use Rattle.std.specs.Prelude.{◌≡◌, ◌⊎◌, ℕ, Bool, true, false, List, [], Option, Some, None, IsSome, IsSomeAnd, Result, Ok, Err}
use Rattle.icu_locale_core.specs.declared.langid.LanguageIdentifier.{LanguageIdentifier}
use Rattle.icu_locale_core.specs.declared.parse_error.ParseError.{ParseError}
use Rattle.icu_locale_extensions.specs.declared.syntax.Syntax.{Syntax}
use Rattle.icu_locale.specs.LikelyTable.{likely}
use Rattle.icu_locale.specs.Negotiation.{Negotiation, IsNegotiated}
use Rattle.icu_tables.specs.declared.tables.Tables.{Tables}
use Rattle.icu_locale_lines.specs.Lists.{listed, SpellsAll, IsFirstFault, TellsFault}
use Rattle.icu_locale_lines.specs.Loads.{has_likely}
use Rattle.icu_locale_lines.specs.Commands.{HoldsSettled}
use Rattle.icu_locale_lines.specs.CommandWords.{syntax_at}
use Rattle.icu_locale_c.specs.Asked.{HasUnsettledList}
use Rattle.icu_locale_lines.specs.Held.{Held, HoldsList, IsNegotiationOf}
use Rattle.icu_locale_c.specs.declared.refusal.Refusal.{Refusal}
use Rattle.icu_locale_c.specs.declared.refusal.Refusal.TheVariants as refusal

-- some text that a line lists spells no identifier, in a syntax or alone
abbrev pub HasFault : Option Syntax → List ℕ → Type 0
HasFault syntax line = (e : ParseError) × IsFirstFault syntax (listed line) e

-- the tables are held, their likely tables among them, with the list of a line
pub record IsListed (syntax : Option Syntax) (t : Tables) (list : List ℕ) (h : Held) : Type 0 where
  pub tables : h.tables ≡ t
  pub loaded : has_likely t ≡ true
  pub listed : HoldsList syntax list h

-- why a line gives no list over tables: a likely table is asked first, and then the line is read
abbrev pub IsRefusedListing : Option Syntax → Tables → List ℕ → Refusal → Type 0
IsRefusedListing syntax t list refusal.Memory = has_likely t ≡ true
IsRefusedListing syntax t list refusal.Table = has_likely t ≡ false
IsRefusedListing syntax t list refusal.List = (has_likely t ≡ true) × HasFault syntax list
IsRefusedListing syntax t list e = ⊥

-- the tables are held a second time, with a list, or what was held stays
abbrev pub IsAvailableCall : Option Syntax → Option Held → List ℕ → Option Held → Option Held
    → Result (Unit {0}) Refusal → Type 0
IsAvailableCall syntax from list old new (Ok u) =
    IsSomeAnd from (λ h. IsSomeAnd new (IsListed syntax h.tables list))
IsAvailableCall syntax from list old new (Err refusal.Closed) = (new ≡ old) × (from ≡ None)
IsAvailableCall syntax from list old new (Err e) =
    (new ≡ old) × IsSomeAnd from (λ h. IsRefusedListing syntax h.tables list e)

-- a line lists requests, and these are the places of the first that is met and of what meets it
pub record IsMet (syntax : Option Syntax) (h : Held) (line : List ℕ) (places : Option (ℕ × ℕ))
    : Type 0 where
  pub requests : List LanguageIdentifier
  pub spelled : SpellsAll syntax (listed line) requests
  pub negotiation : Negotiation
  pub over : IsNegotiationOf h negotiation
  pub met : IsNegotiated (likely negotiation.expander) requests negotiation.available places

-- why a line gives no requests
abbrev pub IsRefusedRequests : Option Syntax → List ℕ → Refusal → Type 0
IsRefusedRequests syntax line refusal.Memory = Unit {0}
IsRefusedRequests syntax line refusal.List = HasFault syntax line
IsRefusedRequests syntax line e = ⊥

-- why there are no places: a list is asked for first, then settled tables, and then the line
abbrev pub IsRefusedNegotiation : Option Syntax → Held → List ℕ → Refusal → Type 0
IsRefusedNegotiation syntax h line refusal.Negotiate = h.available ≡ None
IsRefusedNegotiation syntax h line refusal.Unsettled = HasUnsettledList h
IsRefusedNegotiation syntax h line e =
    IsSome h.available × HoldsSettled h.tables × IsRefusedRequests syntax line e

-- the places are told where a request is met, and stay as they were where none is, or where there is
-- no answer
abbrev pub IsNegotiatedCall : Option Syntax → Option Held → List ℕ → ℕ × ℕ → ℕ × ℕ
    → Result Bool Refusal → Type 0
IsNegotiatedCall syntax held line old new (Ok true) =
    IsSomeAnd held (λ h. IsMet syntax h line (Some new))
IsNegotiatedCall syntax held line old new (Ok false) =
    (new ≡ old) × IsSomeAnd held (λ h. IsMet syntax h line None)
IsNegotiatedCall syntax held line old new (Err refusal.Closed) = (new ≡ old) × (held ≡ None)
IsNegotiatedCall syntax held line old new (Err e) =
    (new ≡ old) × IsSomeAnd held (λ h. IsRefusedNegotiation syntax h line e)

-- the place is that of the first text of a list that spells no identifier, or stays where each does
abbrev pub IsListFault : Option Syntax → List ℕ → ℕ → ℕ → Result (Unit {0}) Refusal → Type 0
IsListFault syntax list old new (Ok u) = (new ≡ old) × TellsFault syntax (listed list) None
IsListFault syntax list old new (Err refusal.List) = TellsFault syntax (listed list) (Some new)
IsListFault syntax list old new (Err refusal.Memory) = new ≡ old
IsListFault syntax list old new (Err e) = ⊥

-- ---- in a syntax

-- a word names a syntax, and no word names none
abbrev pub NamesSyntax : List ℕ → Option Syntax → Type 0
NamesSyntax word None = word ≡ []
NamesSyntax word (Some syntax) = syntax_at word ≡ Some syntax

-- a word is that of no syntax, which is asked before all else
abbrev pub IsNoSyntax : List ℕ → Refusal → Type 0
IsNoSyntax word e =
    (e ≡ refusal.Command) × ((syntax : Option Syntax) → ¬ (NamesSyntax word syntax))

-- a list is read in the syntax that a word names, or what was held stays
abbrev pub IsAvailableIn : Option Held → List ℕ → List ℕ → Option Held → Option Held
    → Result (Unit {0}) Refusal → Type 0
IsAvailableIn from word list old new outcome =
    ((syntax : Option Syntax) × NamesSyntax word syntax
    × IsAvailableCall syntax from list old new outcome)
    ⊎ ((e : Refusal) × IsNoSyntax word e × (outcome ≡ Err e) × (new ≡ old))

-- requests are read in the syntax that a word names, or both places stay
abbrev pub IsNegotiatedIn : Option Held → List ℕ → List ℕ → ℕ × ℕ → ℕ × ℕ → Result Bool Refusal
    → Type 0
IsNegotiatedIn held word line old new outcome =
    ((syntax : Option Syntax) × NamesSyntax word syntax
    × IsNegotiatedCall syntax held line old new outcome)
    ⊎ ((e : Refusal) × IsNoSyntax word e × (outcome ≡ Err e) × (new ≡ old))

-- the place is that of the first text that spells none in the syntax that a word names, or stays
abbrev pub IsListFaultIn : List ℕ → List ℕ → ℕ → ℕ → Result (Unit {0}) Refusal → Type 0
IsListFaultIn word list old new outcome =
    ((syntax : Option Syntax) × NamesSyntax word syntax × IsListFault syntax list old new outcome)
    ⊎ ((e : Refusal) × IsNoSyntax word e × (outcome ≡ Err e) × (new ≡ old))
