use Rattle.std.proofs.Common.{refl, sym, subst}
use Rattle.icu_locale.specs.LikelyTable.{likely}
use Rattle.icu_locale.specs.RuleSet.{lent}
use Rattle.icu_locale_matching.specs.Requests.{IsCanonicalOf}
use Rattle.icu_locale_matching.proofs.requests.asked_of.Goals as goal

pub returns-in-Ok : goal.returns-in-Ok
returns-in-Ok c =
    let l = likely c.args.rules.now.expander in
    let r = lent c.args.rules.now.rules in
    let found = rw c.in-Ok-Some.field-0-is at c.in-Ok-Some.ensures in
    record {
      tag = found.tag;
      known = found.is.0;
      spells = found.is.1;
      plain = found.plain;
      canonical = subst (λ x. IsCanonicalOf l r x c.bring.new.id) (sym found.at) (c.in-Ok.field-0, c.in-Ok.ensures.brought);
    }

pub returns-in-Ok-None : goal.returns-in-Ok-None
returns-in-Ok-None c = λ y asked.
    let none = rw c.in-Ok-None.field-0-is at c.in-Ok-None.ensures in
    none asked.tag.locale.id (record { tag = asked.tag; is = (asked.known, asked.spells); plain = asked.plain; at = refl })
