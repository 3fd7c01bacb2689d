use Rattle.std.proofs.Common.{Option, Some, None, ℕ, true, rules, refl, sym, ap, ◌∙◌, ◌≡◌}
use Rattle.icu_locale_core.specs.Maps.{value_at}
use Rattle.icu_locale_core.specs.TextSet.{text_cmp}
use Rattle.icu_tables_flat.specs.Flat.{run_at}
use Rattle.icu_tables.specs.Tables.{is_of_kind}
use Rattle.icu_tables.specs.inner.Lent.{name_in_run}
use Rattle.icu_tables.proofs.LentNames.{key_reads, keyed_at, keyed_other}
use Rattle.icu_tables.proofs.NamedKeys.{key_ties}
use Rattle.icu_tables.proofs.lent_names.name_in_run.Goals as goal

-- a key of another kind has no name
pub returns-then-not-is_of_kind : goal.returns-then-not-is_of_kind
returns-then-not-is_of_kind c = by c.args.run
  where
    by : (run : Option ℕ) → None ≡ name_in_run c.args.lent.now c.args.marker run c.args.key.now
    by None = refl
    by (Some r) = sym (keyed_other (key_ties c.keys_are_told_apart.ensures.names) c.args.marker c.args.key.now
        (search rules) (run_at c.args.lent.now r))

-- the key is sought by its text
pub returns : goal.returns
returns c =
    let text = c.as_str.ensures.value ∙ c.key_text-text.ensures.text in
    let rows = run_at c.args.lent.now c.in_ok-run.field-0 in
    let there : Some c.in_ok-run.field-0 ≡ c.args.run = search rules in
    let kind : is_of_kind c.args.marker c.args.key.now ≡ true = search rules in
    let read = key_reads c.args.marker c.args.key.now c.key_text-text.ensures.known kind in
    c.get.ensures
    ∙ ap (value_at text_cmp rows) text
    ∙ sym (keyed_at (key_ties c.keys_are_told_apart.ensures.names) c.args.marker c.args.key.now read rows)
    ∙ ap (λ run. name_in_run c.args.lent.now c.args.marker run c.args.key.now) there
