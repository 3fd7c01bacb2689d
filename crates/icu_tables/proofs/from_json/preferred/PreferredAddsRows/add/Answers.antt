use Rattle.std.proofs.Common.{sym, ◌∙◌}
use Rattle.icu_tables.proofs.Puts.{row_added, alias_said}
use Rattle.icu_tables.proofs.from_json.preferred.PreferredAddsRows.add.Goals as goal

-- the row is added
pub returns-in_ok-push : goal.returns-in_ok-push
returns-in_ok-push g c =
    row_added (λ v. v) c.args.rows.now.items c.push.new.self.items c.in-Some-3.aliased c.in-Some-2.preferred _
    c.in_ok-push.ensures.items
    (alias_said g.T.ReadsValue.reads c.args.name.now _ c.in-Some.text.now c.in-Some-3.aliased c.in-Some-2.preferred
    (sym c.in-Some.ensures) (sym c.in_ok-preferred.ensures ∙ c.in-Some-2.is) (sym c.in_ok-aliased.ensures ∙ c.in-Some-3.is))
