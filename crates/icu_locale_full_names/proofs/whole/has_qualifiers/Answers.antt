use Rattle.std.proofs.Common.{◌≡◌, ◌∙◌, ◌||◌, sym, refl, true, false, is_some, Option, Some, None}
use Rattle.std.specs.Borrow.{Bor}
use Rattle.std.proofs.lemmas.Bool.{or_left, or_right}
use Rattle.icu_locale_names.specs.LentNames.{parts_of}
use Rattle.icu_locale_names.specs.declared.language.borrowed.LanguageIdentifierDisplayNameBorrowed.{LanguageIdentifierDisplayNameBorrowed}
use Rattle.icu_locale_full_names.specs.FullNames.{further_texts}
use Rattle.icu_locale_full_names.specs.inner.Drafts.{is_any, are_some}
use Rattle.icu_locale_full_names.specs.inner.Has.{lent_language}
use Rattle.icu_locale_full_names.proofs.Joining.{all_is}
use Rattle.icu_locale_full_names.proofs.whole.has_qualifiers.Goals as goal

lent_is : (name : Option (Bor LanguageIdentifierDisplayNameBorrowed)) → is_some (lent_language name) ≡ is_some name
lent_is None = refl
lent_is (Some name) = refl

-- the identifier has one
pub returns-then-has_own : goal.returns-then-has_own
returns-then-has_own c = λ names.
    sym (all_is (parts_of c.args.name.now) names (lent_language c.args.language) c.args.x.now
    ∙ or_left (is_any (parts_of c.args.name.now).qualifiers) _ (sym c.has_own.ensures ∙ c.if-has_own.true))

-- `t` has a language
pub returns-then-is_some : goal.returns-then-is_some
returns-then-is_some c = λ names.
    let base = parts_of c.args.name.now in
    let language = lent_language c.args.language in
    let some : is_some language ≡ true = lent_is c.args.language ∙ sym c.is_some.ensures ∙ c.if-is_some.true in
    sym (all_is base names language c.args.x.now ∙ or_right (is_any base.qualifiers) _ (or_left (is_some language) _ some))

-- neither
pub returns : goal.returns
returns c = λ names.
    let base = parts_of c.args.name.now in
    let language = lent_language c.args.language in
    let own : is_any base.qualifiers ≡ false = sym c.has_own.ensures ∙ c.if-has_own.false in
    let none : is_some language ≡ false = lent_is c.args.language ∙ sym c.is_some.ensures ∙ c.if-is_some.false in
    sym (all_is base names language c.args.x.now ∙ (λ i. own i || (none i || are_some (further_texts names base.separator None c.args.x.now)))
    ∙ sym (c.has_further.ensures names base.separator))
