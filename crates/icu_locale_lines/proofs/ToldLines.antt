-- Lines that are told by a test.
use Rattle.std.proofs.Common.{◌≡◌, ℕ, Bool, true, List, Result, Ok, Err, sym, ap, ◌∙◌}
use Rattle.std.specs.Prelude.{if◌then◌else◌}
use Rattle.std.specs.Str.{is_utf8}
use Rattle.icu_locale_names.specs.Pieces.{Piece}
use Rattle.icu_provider.specs.declared.error.DataError.{DataError}
use Rattle.icu_locale_lines.specs.Names.{IsNamedLine}
use Rattle.icu_locale_lines.specs.Subtags.{Told, IsToldLine, language_line, refusal_of, refused, subtag_answer, told_by}
use Rattle.icu_locale_lines.specs.declared.work.subtag.SubtagNaming.{SubtagNaming}

-- what is told of the text that a line is
pub subtag_told : (n : SubtagNaming) (line word : List ℕ) → is_utf8 line ≡ true → word ≡ line → told_by n n.chain word ≡ subtag_answer n line
subtag_told n line word utf8 is =
    ap (told_by n n.chain) is ∙ sym (λ i. if utf8 i then told_by n n.chain line else refused (refusal_of n.chain))

-- one of two, by a test
pub when_true : (b : Bool) (x y : Told) → b ≡ true → (if b then x else y) ≡ x
when_true b x y is = λ i. if is i then x else y

-- a language that is named
pub language_named : (r : Result (List Piece) DataError) (t : List ℕ) (a : Bool) → IsNamedLine r t a → IsToldLine (language_line r) t a
language_named (Ok pieces) t a h = h
language_named (Err e) t a h = h
