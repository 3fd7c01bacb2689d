use Rattle.std.proofs.Common.{refl, sym, ◌∙◌}
use Rattle.std.proofs.lemmas.Bool.{false≢true}
use Rattle.icu_locale_core.specs.laws.Identifiers.{identifiers_decide}
use Rattle.icu_locale_key.proofs.whole.changed_from.Goals as goal

-- identifiers compare equal exactly where they are
pub returns-then-eq : goal.returns-then-eq
returns-then-eq c =
    let same = (identifiers_decide c.args.key.now c.args.id.now).0 (sym c.eq.ensures ∙ c.if-eq.true) in
    (λ modified. absurd (cc), λ other. absurd (other same))

pub returns-else-eq : goal.returns-else-eq
returns-else-eq c = (
  λ modified same. false≢true (sym c.if-eq.false ∙ c.eq.ensures ∙ (identifiers_decide c.args.key.now c.args.id.now).1 same),
  λ other. refl,
)
