use Rattle.icu_locale.specs.LikelyTable.{likely}
use Rattle.icu_locale.specs.declared.expander.Favor.TheVariants.{RegionFirst}
use Rattle.icu_locale_key.specs.Keys.{IsKey}
use Rattle.icu_locale_key.proofs.Forms.{same_minimal_form}
use Rattle.icu_locale_key.proofs.KeyRuns.{ends_stable, stable_or_not, stable_is_one, stable_is_kept, stable_of_equal}
use Rattle.icu_locale_key.proofs.Unsettled.{no_reason, one_reason}
use Rattle.icu_locale_key.proofs.laws.stable_key_is_one.Goals as goal

pub returns-clause-exists : goal.returns-clause-exists
returns-clause-exists c e rules x =
    stable_or_not e rules (c.the_likely_table_is_one_map.ensures.finite e) (c.minimal_form_is_one.ensures.exists RegionFirst (likely e)) x

pub returns-clause-one : goal.returns-clause-one
returns-clause-one c table rules x k l one other = stable_is_one table rules (c.minimal_form_is_one.ensures.exists RegionFirst table) x k l one other

pub returns-clause-kept : goal.returns-clause-kept
returns-clause-kept c table rules x k l stable is = stable_is_kept table rules (c.minimal_form_is_one.ensures.exists RegionFirst table) x k l stable is

-- canonical forms with one maximal form have one key
pub returns-clause-equal : goal.returns-clause-equal
returns-clause-equal c table rules x y a b k l ends_x ends_y same stable_x stable_y =
    let form = c.minimal_form_is_one.ensures.exists RegionFirst table in
    let key = form a in
    let of_x : IsKey RegionFirst table rules x key.0 = record { canonical = a; end = ends_x; minimal = key.1 } in
    let of_y : IsKey RegionFirst table rules y key.0 =
    record { canonical = b; end = ends_y; minimal = same_minimal_form RegionFirst table a b key.0 same key.1 } in
    stable_of_equal table rules form x y key.0 k l of_x of_y stable_x stable_y

pub returns-clause-not_both : goal.returns-clause-not_both
returns-clause-not_both c table rules x k z stable why =
    let form = c.minimal_form_is_one.ensures.exists RegionFirst table in
    no_reason table rules form x k z (ends_stable table rules form x k stable) why

pub returns-clause-one_reason : goal.returns-clause-one_reason
returns-clause-one_reason c table rules x y z one other = one_reason table rules (c.minimal_form_is_one.ensures.exists RegionFirst table) x y z one other
