use Rattle.std.proofs.Common.{◌∙◌, ◌∷◌, [], sym, subst, arith, map, take, ap, ℕ, List, IsOk}
use Rattle.std.proofs.lemmas.Bool.{false≢true}
use Rattle.std.specs.List.{filter_map}
use Rattle.std.proofs.lemmas.List.Elements.{filter_map-append}
use Rattle.icu_locale_matching.specs.Header.{AreByWeight, Wish, elements_of, read_element}
use Rattle.icu_locale_matching.specs.inner.Parts.{elements_if_any}
use Rattle.icu_locale_matching.specs.Header.{shown}
use Rattle.icu_locale_matching.proofs.Inserts.{one_part, no_part, none_read}
use Rattle.icu_locale_matching.proofs.header.read_wishes.Goals as goal

-- nothing is left
pub returns-in-None-clause-read : goal.returns-in-None-clause-read
returns-in-None-clause-read c =
    let es : List (List ℕ) = elements_of c.args.header.now in
    let none = c.loop-i.invariant.left ∙ c.in-None.ensures in
    subst (λ ps. AreByWeight (filter_map read_element ps) (map shown c.loop-i.list.items)) (no_part es c.loop-i.i 100 (omega arith) none) c.loop-i.invariant.list

-- one element more
pub loop-i-preserved : goal.loop-i-preserved
loop-i-preserved c =
    let es : List (List ℕ) = elements_of c.args.header.now in
    let first = c.in-Some.found.0.now in
    let left = c.loop-i.invariant.left ∙ c.in-Some.ensures in
    let step = one_part es c.loop-i.i first (elements_if_any c.in-Some.found.1) left in
    let wishes : List Wish = filter_map read_element (take c.loop-i.i es) in
    let more = c.in_ok-add_element.ensures.added wishes c.loop-i.invariant.list in
    let read = ap (filter_map read_element) step.0 ∙ filter_map-append read_element (take c.loop-i.i es) (first ∷ []) in
    record { left = step.1; list = subst (λ ws. AreByWeight ws (map shown c.add_element.new.list.items)) (sym read) more }

pub returns-in_err-add_element-clause-free : goal.returns-in_err-add_element-clause-free
returns-in_err-add_element-clause-free c = λ none.
    let es : List (List ℕ) = elements_of c.args.header.now in
    let first = c.in-Some.found.0.now in
    let left = c.loop-i.invariant.left ∙ c.in-Some.ensures in
    let unread = none_read read_element es c.loop-i.i 100 first (elements_if_any c.in-Some.found.1) left (omega arith) none in
    let fine = c.add_element.ensures.free unread in
    absurd (false≢true (subst IsOk c.in_err-add_element.was fine))
