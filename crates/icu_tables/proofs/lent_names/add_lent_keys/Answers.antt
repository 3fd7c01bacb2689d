use Rattle.std.proofs.Common.{◌≡◌, ◌++◌, ◌↔◌, Result, Ok, Err, is_some, subst, OnOk}
use Rattle.std.specs.Prelude.{IsTrue}
use Rattle.std.specs.List.{Contains}
use Rattle.std.specs.Map.{keys_of}
use Rattle.std.specs.declared.alloc.AllocError.{AllocError}
use Rattle.icu_tables_flat.specs.Flat.{run_at}
use Rattle.icu_tables.specs.Groups.{Names}
use Rattle.icu_tables.specs.LentNames.{keyed, rows_in_flat}
use Rattle.icu_tables.specs.inner.Lent.{AddsKeys}
use Rattle.icu_tables.proofs.NamedKeys.{key_has_name, key_ties}
use Rattle.icu_tables.proofs.lent_names.add_lent_keys.Goals as goal

-- the keys of the run are those that have a name
pub returns-in-Some : goal.returns-in-Some
returns-in-Some c = by c.add_run_keys.result c.add_run_keys.ensures
  where
    names : Names
    names = keyed c.args.marker (run_at c.args.lent.now c.in-Some.run')

    by : (result : Result (Unit {0}) AllocError) → OnOk result (c.add_run_keys.new.keys.items ≡ c.args.keys.now.items ++ keys_of names)
        → OnOk result (AddsKeys (rows_in_flat c.args.lent.now) (c.args.marker, c.args.locale.now) c.args.keys.now.items c.add_run_keys.new.keys.items)
    by (Ok done) grown = record {
      added = keys_of names;
      grown = grown;
      each = λ key. subst (λ o. Contains (keys_of names) key ↔ IsTrue (is_some o)) (c.in-Some.ensures key)
          (key_has_name (key_ties c.keys_are_told_apart.ensures.names) names key);
    }
    by (Err e) grown = tt
