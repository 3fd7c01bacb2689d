use Rattle.std.proofs.Common.{◌≡◌, ◌≢◌, ℕ, ◌<◌, false, List, length, get_or, refl, lit<, ap, ◌∙◌, arith}
use Rattle.std.specs.List.{slice_split, All}
use Rattle.std.proofs.lemmas.Bool.Decides.{nat_tests}
use Rattle.std.proofs.lemmas.List.Elements.{All-from_get_or}
use Rattle.std.proofs.lemmas.List.Splits.{slice_split_none, slice_split_at}
use Rattle.std.proofs.lemmas.Option.{MatchOption-at_some, MatchOption-at_none}
use Rattle.std.proofs.lemmas.Str.Pattern.{split_parts}
use Rattle.icu_locale_lines.specs.Lists.{is_space}
use Rattle.icu_locale_lines.proofs.cursor.cut.Goals as goal

no_space : (n : ℕ) → n ≢ 32 → is_space n ≡ false
no_space n other = grind (arith, nat_tests)

no_spaces : (bs : List ℕ) → ((i : ℕ) → i < length bs → get_or bs i 0 ≢ 32) → All (λ b. is_space b ≡ false) bs
no_spaces bs others = All-from_get_or (λ b. is_space b ≡ false) bs 0 (λ i low. no_space (get_or bs i 0) (others i low))

pub returns-in-Some : goal.returns-in-Some
returns-in-Some c =
    let parts = split_parts 32 c.args.text.now c.split_once.result c.split_once.ensures.cases (lit< tt) in
    let cut = MatchOption-at_some _ _ _ c.in-Some.is parts in
    ap (slice_split is_space) cut.0 ∙ slice_split_at is_space c.in-Some.word.now 32 c.in-Some.rest.now (no_spaces c.in-Some.word.now cut.1) refl

pub returns-in-None : goal.returns-in-None
returns-in-None c = slice_split_none is_space c.args.text.now (no_spaces c.args.text.now
    (MatchOption-at_none _ _ c.in-None.is (split_parts 32 c.args.text.now c.split_once.result c.split_once.ensures.cases (lit< tt))))
