use Rattle.std.proofs.Common.{List, sym, ◌∙◌, subst}
use Rattle.icu_locale_matching.specs.Header.{Wish, AreByWeight}
use Rattle.icu_locale_matching.proofs.Inserts.{no_wishes}
use Rattle.icu_locale_matching.proofs.server.place_served.Goals as goal

-- there is some wish here
pub returns-clause-free : goal.returns-clause-free
returns-clause-free c = λ none.
    let are = subst (λ (ws : List Wish). AreByWeight ws c.in_ok-header.header) none c.in_ok-header.ensures.read in
    absurd (no_wishes c.in_ok-header.header are (sym c.is_empty.ensures ∙ c.if-is_empty.false))
