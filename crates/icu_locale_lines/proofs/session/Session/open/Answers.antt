use Rattle.std.proofs.Common.{refl, rules}
use Rattle.icu_locale_lines.specs.declared.command.Command.TheVariants.{Lines}
use Rattle.icu_locale_lines.specs.laws.Expanders.{unsettled_from_one}
use Rattle.icu_locale_lines.proofs.session.Session.open.Goals as goal

-- the tables are held, and not settled
pub returns-then-not-is_settled-clause-unsettled : goal.returns-then-not-is_settled-clause-unsettled
returns-then-not-is_settled-clause-unsettled c = (
  λ same. unsettled_from_one (Lines c.args.command.now) c.args.tables.now c.in_ok-expander.expander c.in-Negotiate.is
      (search rules) c.in_ok-expander.ensures.made (search rules),
  λ unsettled. refl,
)

-- so it is refused
pub returns-then-not-is_settled-clause-refused : goal.returns-then-not-is_settled-clause-refused
returns-then-not-is_settled-clause-refused c =
    unsettled_from_one (Lines c.args.command.now) c.args.tables.now c.in_ok-expander.expander c.in-Negotiate.is
    (search rules) c.in_ok-expander.ensures.made (search rules)
