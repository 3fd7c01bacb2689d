use Rattle.std.proofs.Common.{◌≡◌, refl, subst, length, arith}
use Rattle.std.proofs.lemmas.Option.{slice_get_read}
use Rattle.icu_locale.specs.LikelyTable.{likely}
use Rattle.icu_locale.specs.inner.Index.{AreListed}
use Rattle.icu_locale.proofs.Negotiating.{AreListed-push, IsIndex-sorted}
use Rattle.icu_locale.proofs.negotiator.sorted_rows.Goals as goal

-- one more row
pub loop-place-preserved : goal.loop-place-preserved
loop-place-preserved c =
    let id = c.index-available-place.result in
    let stands = slice_get_read c.args.available.now (length c.args.available.now) c.loop-place.place id refl c.loop-place-test.true
    c.index-available-place.is in
    rw c.in_ok-push.ensures.items (AreListed-push _ _ c.loop-place.place _ (record
    { minimal = c.plain_form-minimal.result; place = c.loop-place.place }) c.loop-place.invariant
    (record { identifier = id; stands = stands; known = c.plain_form-minimal.ensures.known; form = c.plain_form-minimal.ensures.form }) refl)

-- all of them, sorted
pub returns-clause-rows : goal.returns-clause-rows
returns-clause-rows c =
    let all : c.loop-place.place ≡ length c.args.available.now = omega arith in
    let listed = subst (λ n. AreListed (likely c.args.expander.now) c.args.available.now n c.loop-place.rows.items) all c.loop-place.invariant in
    IsIndex-sorted _ _ _ _ listed c.sort_unstable.ensures.permutation c.sort_unstable.ensures.sorted
