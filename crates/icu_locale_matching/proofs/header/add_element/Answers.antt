use Rattle.std.proofs.Common.{◌≡◌, ◌∙◌, ◌++◌, [], sym, ap, subst, map, OnOk, List, Option, Some}
use Rattle.std.specs.List.{cons_option}
use Rattle.icu_locale_matching.specs.Header.{AreByWeight, Wish, read_element}
use Rattle.icu_locale_matching.specs.inner.Parts.{shown_if_any}
use Rattle.icu_locale_matching.specs.Header.{shown}
use Rattle.icu_locale_matching.proofs.header.add_element.Goals as goal

pub returns-in-Some-clause-added : goal.returns-in-Some-clause-added
returns-in-Some-clause-added c =
    let read : Some (shown c.in-Some.wish) ≡ read_element c.args.text.now = sym (ap shown_if_any c.in-Some.is) ∙ c.read_element.ensures in
    subst (λ (o : Option Wish). OnOk c.add_wish.result ((wishes : List Wish) → AreByWeight wishes (map shown c.args.list.now.items)
    → AreByWeight (wishes ++ cons_option o []) (map shown c.add_wish.new.list.items))) read c.add_wish.ensures
