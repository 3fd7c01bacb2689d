use Rattle.std.proofs.Common.{refl}
use Rattle.icu_provider.specs.laws.InversionLists.{test_from_IsInversionList, test_fails}
use Rattle.icu_tables.proofs.Files.{map-same}
use Rattle.icu_tables.proofs.from_json.exemplars.ExemplarCharactersDataFromValue.from_value.Goals as goal

-- the list is an inversion list
pub returns-in-Ok : goal.returns-in-Ok
returns-in-Ok c =
    let test = test_from_IsInversionList c.in_ok-ranges.ranges.items (c.in-Ok.ensures.accepted.0 refl) in
    rw (
      c.in_ok-only_members.ensures,
      c.in_ok-ranges.ensures,
      c.in_ok-strings.ensures,
      map-same c.in_ok-ranges.ranges.items,
      test,
      c.in-Ok.ensures.ranges,
      c.in-Ok.ensures.strings,
    )

-- it is none
pub returns-in-Err : goal.returns-in-Err
returns-in-Err c =
    let test = test_fails c.in_ok-ranges.ranges.items c.in-Err.ensures.accepted.1 in
    rw (c.in_ok-only_members.ensures, c.in_ok-ranges.ensures, c.in_ok-strings.ensures, map-same c.in_ok-ranges.ranges.items, test)
