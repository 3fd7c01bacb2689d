-- Objects that have each name once: their names rise.
use Rattle.std.specs.Prelude.{◌≡◌, ℕ, List}
use Rattle.std.specs.declared.cmp.Ordering.TheVariants.{Less}
use Rattle.serde_json.specs.Data.{Data, null, boolean, number, string, array, object, Items, no_items, item, Members, no_members, member}
use Rattle.icu_locale_core.specs.TextSet.{text_cmp}

-- each of these names is above a name
abbrev pub AllAbove : List ℕ → Members → Type 0
AllAbove name no_members = Unit {0}
AllAbove name (member other value members) = (text_cmp name other ≡ Less) × AllAbove name members

-- the names rise, in a value and in every value inside
abbrev mutual
  pub NamesRise : Data → Type 0
  NamesRise null = Unit {0}
  NamesRise (boolean b) = Unit {0}
  NamesRise (number n) = Unit {0}
  NamesRise (string s) = Unit {0}
  NamesRise (array items) = ItemsRise items
  NamesRise (object members) = MembersRise members

  pub ItemsRise : Items → Type 0
  ItemsRise no_items = Unit {0}
  ItemsRise (item value items) = NamesRise value × ItemsRise items

  pub MembersRise : Members → Type 0
  MembersRise no_members = Unit {0}
  MembersRise (member name value members) =
      AllAbove name members × NamesRise value × MembersRise members
