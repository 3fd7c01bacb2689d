use Rattle.std.proofs.Common.{◌≡◌, ◌++◌, ◌↔◌, List, Some, None, Result, Ok, Err, OnOk, append_assoc, is_some, option_copied, sym, ap, ◌∙◌, subst}
use Rattle.std.specs.Prelude.{IsTrue}
use Rattle.std.specs.List.{Contains}
use Rattle.std.specs.Map.{keys_of}
use Rattle.std.specs.declared.alloc.AllocError.{AllocError}
use Rattle.std.proofs.lemmas.List.{append-nil}
use Rattle.icu_locale_core.specs.Maps.{value_at}
use Rattle.icu_provider.specs.Requests.{name_cmp}
use Rattle.icu_provider.specs.declared.names.NameKey.{NameKey}
use Rattle.icu_tables.specs.Groups.{NameGroup}
use Rattle.icu_tables.specs.LentNames.{lent_rows, rows_in_flat}
use Rattle.icu_tables.specs.inner.Lent.{AddsKeys}
use Rattle.icu_tables.proofs.AllNames.{AreKeysOf, keys_of_both}
use Rattle.icu_tables.proofs.NamedKeys.{Rows, key_has_name, key_ties}
use Rattle.icu_tables.proofs.named_keys.add_all_keys.Goals as goal

-- own keys, and then further ones
more_keys : (own more : Rows) (g : NameGroup) (old xs after new : List NameKey) → AreKeysOf own g xs → after ≡ old ++ xs
    → AddsKeys more g after new → AddsKeys (own ++ more) g old new
more_keys own more g old xs after new are grown adds = record {
  added = xs ++ adds.added;
  grown = adds.grown ∙ ap (λ keys. keys ++ adds.added) grown ∙ append_assoc old xs adds.added;
  each = keys_of_both own more g xs adds.added are adds.each;
}

-- the keys of own names, and then those of lent ones
pub returns-in-Some : goal.returns-in-Some
returns-in-Some c = by c.add_lent_keys.result c.add_lent_keys.ensures
  where
    g : NameGroup
    g = (c.args.marker, c.args.locale.now)

    are : AreKeysOf c.args.own.now g (keys_of c.names_of.result.now)
    are = λ key. subst (λ o. Contains (keys_of c.names_of.result.now) key ↔ IsTrue (is_some o)) (c.names_of.ensures key)
        (key_has_name (key_ties c.keys_are_told_apart.ensures.names) c.names_of.result.now key)

    lent : Some c.in-Some.lent.now ≡ option_copied c.args.lent
    lent = ap option_copied (sym c.in-Some.is)

    by : (result : Result (Unit {0}) AllocError)
        → OnOk result (AddsKeys (rows_in_flat c.in-Some.lent.now) g c.add_keys.new.keys.items c.add_lent_keys.new.keys.items)
        → OnOk result (AddsKeys (c.args.own.now ++ lent_rows (option_copied c.args.lent)) g c.args.keys.now.items c.add_lent_keys.new.keys.items)
    by (Ok done) adds = subst (λ o. AddsKeys (c.args.own.now ++ lent_rows o) g c.args.keys.now.items c.add_lent_keys.new.keys.items) lent
        (more_keys c.args.own.now (rows_in_flat c.in-Some.lent.now) g c.args.keys.now.items (keys_of c.names_of.result.now)
        c.add_keys.new.keys.items c.add_lent_keys.new.keys.items are c.in_ok-add_keys.ensures adds)
    by (Err e) adds = tt

-- those of own names alone
pub returns-in-None : goal.returns-in-None
returns-in-None c =
    subst (λ o. AddsKeys (c.args.own.now ++ lent_rows o) (c.args.marker, c.args.locale.now) c.args.keys.now.items c.add_keys.new.keys.items)
    (ap option_copied (sym c.in-None.is)) alone
  where
    alone : AddsKeys (c.args.own.now ++ lent_rows None) (c.args.marker, c.args.locale.now) c.args.keys.now.items c.add_keys.new.keys.items
    alone = record {
      added = keys_of c.names_of.result.now;
      grown = c.in_ok-add_keys.ensures;
      each = λ key. subst (λ rows. Contains (keys_of c.names_of.result.now) key ↔ IsTrue (is_some (value_at name_cmp rows (c.args.marker, c.args.locale.now, key))))
          (sym (append-nil c.args.own.now))
          (subst (λ o. Contains (keys_of c.names_of.result.now) key ↔ IsTrue (is_some o)) (c.names_of.ensures key)
          (key_has_name (key_ties c.keys_are_told_apart.ensures.names) c.names_of.result.now key));
    }
