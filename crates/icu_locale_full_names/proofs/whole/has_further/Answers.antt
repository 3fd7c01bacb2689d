use Rattle.std.proofs.Common.{◌≡◌, ◌∙◌, ◌||◌, sym, true, is_some}
use Rattle.std.proofs.lemmas.Bool.{or_left, or_right}
use Rattle.icu_locale_full_names.specs.inner.Drafts.{is_any}
use Rattle.icu_locale_full_names.proofs.Joining.{further_is, some_unless_empty}
use Rattle.icu_locale_full_names.proofs.whole.has_further.Goals as goal

-- there is an attribute
pub returns-then-not-is_empty : goal.returns-then-not-is_empty
returns-then-not-is_empty c = λ names sep.
    let some = some_unless_empty c.args.x.now.attributes c.is_empty.result c.is_empty.ensures.1 c.if-not-is_empty.true in
    sym (further_is names sep c.args.x.now ∙ or_right _ _ (or_left _ _ some))

-- a keyword
pub returns-then-not-is_empty-2 : goal.returns-then-not-is_empty-2
returns-then-not-is_empty-2 c = λ names sep.
    let some = some_unless_empty c.args.x.now.locale.extensions.unicode.keywords c.is_empty-2.result c.is_empty-2.ensures.1 c.if-not-is_empty-2.true in
    sym (further_is names sep c.args.x.now ∙ or_right _ _ (or_right _ _ (or_left _ _ some)))

-- another extension
pub returns-then-not-is_empty-3 : goal.returns-then-not-is_empty-3
returns-then-not-is_empty-3 c = λ names sep.
    let some = some_unless_empty c.args.x.now.others c.is_empty-3.result c.is_empty-3.ensures.1 c.if-not-is_empty-3.true in
    let x = c.args.x.now in
    let both : (is_any x.others || is_some x.private_use) ≡ true = or_left (is_any x.others) (is_some x.private_use) some in
    sym (further_is names sep x ∙ or_right _ _ (or_right (is_any x.attributes) _ (or_right (is_any x.locale.extensions.unicode.keywords) _ both)))
