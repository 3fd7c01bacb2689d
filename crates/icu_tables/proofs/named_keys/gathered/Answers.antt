use Rattle.std.proofs.Common.{◌↔◌, ◌+◌, ◌++◌, option_copied, sym, subst, take, arith, length, ◌≤◌}
use Rattle.std.specs.Prelude.{IsTrue}
use Rattle.std.specs.List.{Contains}
use Rattle.std.proofs.lemmas.List.{take_all}
use Rattle.icu_provider.specs.declared.names.NameKey.{NameKey}
use Rattle.icu_provider.specs.declared.names.NameMarker.TheVariants.{LanguageLongHeavy}
use Rattle.icu_tables.specs.LentNames.{lent_rows}
use Rattle.icu_tables.specs.NamedKeys.{is_named_by}
use Rattle.icu_tables.proofs.NamedKeys.{Rows, gathered_more}
use Rattle.icu_tables.proofs.named_keys.gathered.Goals as goal

-- with the keys of one marker more
pub loop-marker-preserved : goal.loop-marker-preserved
loop-marker-preserved c =
    let i = c.loop-marker.marker-index in
    let rows : Rows = c.args.own.now ++ lent_rows (option_copied c.args.lent) in
    let adds = c.in_ok-add_all_keys.ensures in
    subst (λ keys. (key : NameKey) → Contains keys key ↔ IsTrue (is_named_by rows (take (i + 1) c.args.markers.now) c.args.locale.now key))
    (sym adds.grown)
    (gathered_more rows c.args.markers.now c.args.locale.now i LanguageLongHeavy (omega arith) c.loop-marker.keys.items adds.added
    adds.each c.loop-marker.invariant)

-- all markers were asked
pub returns : goal.returns
returns c =
    let rows : Rows = c.args.own.now ++ lent_rows (option_copied c.args.lent) in
    let past : length c.args.markers.now ≤ c.loop-marker.marker-index = omega arith in
    λ key. subst (λ ms. Contains c.loop-marker.keys.items key ↔ IsTrue (is_named_by rows ms c.args.locale.now key))
    (take_all c.loop-marker.marker-index c.args.markers.now past) (c.loop-marker.invariant key)
