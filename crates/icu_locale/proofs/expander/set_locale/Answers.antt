use Rattle.std.proofs.Common.{refl}
use Rattle.icu_locale.proofs.Maximal.{unchanged, changed}
use Rattle.icu_locale.proofs.expander.set_locale.Goals as goal

-- the same locale leaves the identifier
pub returns-then-eq-clause-modified : goal.returns-then-eq-clause-modified
returns-then-eq-clause-modified c = (
  λ e. absurd (cc),
  λ other. absurd (other
      (unchanged c.args.id.now c.locale_of-given.result c.args.locale c.locale_of-given.ensures c.if-eq.ensures)),
)

pub returns-then-eq-clause-unmodified : goal.returns-then-eq-clause-unmodified
returns-then-eq-clause-unmodified c = (
  λ e. unchanged c.args.id.now c.locale_of-given.result c.args.locale c.locale_of-given.ensures
      c.if-eq.ensures,
  λ same. refl,
)

pub returns-else-eq-clause-unmodified : goal.returns-else-eq-clause-unmodified
returns-else-eq-clause-unmodified c = (
  λ e. absurd (cc),
  λ same. absurd (changed c.args.id.now c.locale_of-given.result c.args.locale
      c.locale_of-given.ensures c.if-eq.ensures same),
)
