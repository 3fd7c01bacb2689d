use Rattle.std.proofs.Common.{◌≡◌, ◌∙◌, ◌++◌, ◌∷◌, [], sym, ap, subst, map, nat_lt, Bool, List}
use Rattle.std.specs.List.{position_or_len}
use Rattle.icu_locale_matching.specs.Header.{AreByWeight}
use Rattle.icu_locale_matching.specs.Header.{shown}
use Rattle.icu_locale_matching.specs.declared.header.LentWish.{LentWish}
use Rattle.icu_locale_matching.proofs.Inserts.{lighter, IsPlaceFor, IsPlaceFor-first, AreByWeight-insert, map-insert, place-map}
use Rattle.icu_locale_matching.proofs.header.add_wish.Goals as goal

pub returns : goal.returns
returns c = λ wishes before.
    let old = c.make_room.new.list.items in
    let are = subst (λ (items : List LentWish). AreByWeight wishes (map shown items)) (sym c.in_ok-make_room.ensures) before in
    let wish = c.args.wish in
    let at = c.place_for-place.result in
    let lists = map shown old in
    let less : LentWish → Bool = λ w. nat_lt w.weight wish.weight in
    let first = c.place_for-place.ensures.place ∙ ap (position_or_len less) c.deref.ensures.value in
    let there : at ≡ position_or_len (lighter wish.weight) lists = first ∙ sym (place-map shown wish.weight old) in
    let placed = subst (IsPlaceFor wish.weight lists) (sym there) (IsPlaceFor-first wish.weight lists are.falls) in
    let new = ap (map shown) c.in_ok-insert.ensures.items ∙ map-insert shown old at wish in
    subst (AreByWeight (wishes ++ shown wish ∷ [])) (sym new) (AreByWeight-insert lists (shown wish) at placed wishes are)
