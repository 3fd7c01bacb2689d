-- Why there are no places, and no negotiation over what is held.
use Rattle.std.proofs.Common.{◌≡◌, ◌∙◌, ℕ, List, Option, None, Some, Result, IfErr, ap, is_some, sym, subst, refl}
use Rattle.std.specs.Prelude.{IsSome, option_map}
use Rattle.std.specs.Option.{option_or}
use Rattle.std.proofs.lemmas.Bool.{false≢true}
use Rattle.std.proofs.lemmas.Result.{IfErr-weaker}
use Rattle.icu_locale.specs.Negotiation.{Negotiation}
use Rattle.icu_locale_extensions.specs.declared.syntax.Syntax.{Syntax}
use Rattle.icu_locale_lines.specs.Held.{Held, IsNegotiationOf, ServesListed, available_in, identifiers_of_list}
use Rattle.icu_locale_lines.specs.declared.session.Session.{Session}
use Rattle.icu_locale_lines.specs.declared.session.list.KeptList.{KeptList}
use Rattle.icu_locale_matching.specs.Service.{identifiers_of}
use Rattle.icu_locale_matching.specs.declared.server.ServedLocales.{ServedLocales}
use Rattle.icu_locale_c.specs.Asked.{HasNoNegotiation}
use Rattle.icu_locale_c.specs.Negotiations.{IsRefusedNegotiation, IsRefusedRequests}
use Rattle.icu_locale_c.specs.declared.refusal.Refusal.{Refusal}
use Rattle.icu_locale_c.specs.declared.refusal.Refusal.TheVariants as refusal

-- why there is no negotiator is why there are no places
pub no_places : (syntax : Option Syntax) (h : Held) (line : List ℕ) (e : Refusal) → HasNoNegotiation h e → IsRefusedNegotiation syntax h line e
no_places syntax h line refusal.Negotiate why = why
no_places syntax h line refusal.Unsettled why = why
no_places syntax h line e why = absurd why

-- with a negotiator, why a line gives no places is told by the line
pub refused_requests : {A : Type 0} (syntax : Option Syntax) (h : Held) (n : Negotiation) (line : List ℕ) (r : Result A Refusal)
    → IsNegotiationOf h n → IfErr r (IsRefusedRequests syntax line) → IfErr r (IsRefusedNegotiation syntax h line)
refused_requests syntax h n line r over why = IfErr-weaker r _ _ by why
  where
    by : (e : Refusal) → IsRefusedRequests syntax line e → IsRefusedNegotiation syntax h line e
    by refusal.Negotiate why = absurd why
    by refusal.Unsettled why = absurd why
    by e why = (ap is_some over.available, (n.expander, over.expander, over.settled), why)

-- where no list is kept, nothing is available
pub none_listed : (s : Session) → ServesListed s → s.list ≡ None → available_in s ≡ None
none_listed s first none =
    ap (λ l. option_or (option_map identifiers_of_list l) (option_map identifiers_of s.served)) none
    ∙ by s.served (λ there. subst (λ l. IsSome l) none (first there))
  where
    by : (o : Option ServedLocales) → (IsSome o → IsSome {T = KeptList} None) → option_or None (option_map identifiers_of o) ≡ None
    by None first = refl
    by (Some v) first = absurd (false≢true (first refl))
