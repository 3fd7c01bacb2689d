use Rattle.std.proofs.Common.{◌≡◌, take, drop, map}
use Rattle.std.specs.List.{filter_map}
use Rattle.icu_locale_matching.specs.Header.{AreByWeight, elements_of, read_element}
use Rattle.icu_locale_matching.specs.inner.Parts.{elements_if_any}
use Rattle.icu_locale_matching.specs.Header.{shown}
use Rattle.icu_locale_matching.proofs.header.read_wishes.Given as goal

abbrev pub invariant-loop-i : goal.invariant-loop-i
invariant-loop-i l = record {
  left : drop l.i (elements_of l.header) ≡ elements_if_any l.rest;
  list : AreByWeight (filter_map read_element (take l.i (elements_of l.header))) (map shown l.list.items);
}
