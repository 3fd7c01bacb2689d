use Rattle.std.proofs.Common.{◌≡◌, ◌∙◌, sym, ap, map, take, drop}
use Rattle.std.specs.List.{position_or_len}
use Rattle.std.proofs.lemmas.List.{take-map, drop-map}
use Rattle.icu_locale_matching.specs.Header.{shown}
use Rattle.icu_locale_matching.proofs.Inserts.{lighter, place-map, wanted_are, refused_are}
use Rattle.icu_locale_matching.proofs.header.wanted_and_refused.Goals as goal

pub returns-clause-wanted : goal.returns-clause-wanted
returns-clause-wanted c =
    let ws = map shown c.args.list.now in
    let at : c.place_for.result ≡ position_or_len (lighter 1) ws = c.place_for.ensures.place ∙ sym (place-map shown 1 c.args.list.now) in
    ap (map shown) c.split_at.ensures.front ∙ (sym (take-map shown c.place_for.result c.args.list.now) ∙ (ap (λ n. take n ws) at ∙ wanted_are ws c.requires))

pub returns-clause-refused : goal.returns-clause-refused
returns-clause-refused c =
    let ws = map shown c.args.list.now in
    let at : c.place_for.result ≡ position_or_len (lighter 1) ws = c.place_for.ensures.place ∙ sym (place-map shown 1 c.args.list.now) in
    ap (map shown) c.split_at.ensures.back ∙ (sym (drop-map shown c.place_for.result c.args.list.now) ∙ (ap (λ n. drop n ws) at ∙ refused_are ws c.requires))
