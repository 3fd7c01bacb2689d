-- A first line that is read by parts.
use Rattle.std.proofs.Common.{◌≡◌, ◌≤◌, ℕ, true, false, ◌||◌, List, [], ◌∷◌, ◌++◌, length, Option, None, Some, inr, refl, ap, sym, subst, ◌∙◌, append_assoc}
use Rattle.std.specs.List.{list_any}
use Rattle.std.specs.Io.KnownBytes.{Consumes, prepend_known}
use Rattle.std.proofs.KnownBytes.{Consumes-trans}
use Rattle.std.proofs.lemmas.Bool.{false≢true}
use Rattle.std.proofs.lemmas.List.Folds.{list_any-append}
use Rattle.icu_locale_lines.specs.Lines.{is_line_feed, first_line, exceeds, Stream}
use Rattle.icu_locale_lines.specs.Streams.{part_size, ReadsLine, ReadsNoLine}
use Rattle.icu_locale_lines.specs.inner.Parts.{TakesLine}

-- what was read and is not used stands before what is left
consumed_front : (start new : Stream) (used rest : List ℕ) → Consumes start new (used ++ rest) → Consumes start (prepend_known rest new) used
consumed_front None new used rest all = tt
consumed_front (Some xs) None used rest all = absurd all
consumed_front (Some xs) (Some ys) used rest all = all ∙ append_assoc used rest ys

-- the beginning of a line was read, and then one more part
module _ (longest : Option ℕ) (start mid new : Stream) (line part : List ℕ) (before : Consumes start mid line) (more : Consumes mid new part) where
  -- the line is too long
  pub no_line : list_any is_line_feed line ≡ false → exceeds longest line ≡ false → length part ≤ part_size → exceeds longest (first_line (line ++ part)) ≡ true
      → ReadsNoLine longest start new
  no_line alone within size long = (
    line ++ part,
    Consumes-trans start mid new line part before more,
    (record { begun = line; part = part; parted = refl; unended = (alone, within); short = size }, inr long),
  )

  -- the part ends it
  pub line_ended : (whole rest : List ℕ) → list_any is_line_feed line ≡ false → TakesLine line part whole (Some rest)
      → exceeds longest whole ≡ false → ReadsLine longest start (prepend_known rest new) whole false
  line_ended whole rest alone (front, parted, none, is) within =
      let all : line ++ part ≡ (whole ++ 10 ∷ []) ++ rest =
      ap (λ p. line ++ p) parted ∙ sym (append_assoc line front (10 ∷ rest)) ∙ ap (λ w. w ++ 10 ∷ rest) (sym is)
      ∙ sym (append_assoc whole (10 ∷ []) rest) in
      record {
        consumed = consumed_front start new (whole ++ 10 ∷ []) rest
            (subst (Consumes start new) all (Consumes-trans start mid new line part before more));
        alone = ap (list_any is_line_feed) is ∙ list_any-append is_line_feed line front ∙ (λ i. alone i || none i);
        within = within;
        at_end = λ ended. absurd (false≢true ended);
      }

-- what was read before comes first
pub Consumes-prepended : (first : List ℕ) (read : Stream) → Consumes (prepend_known first read) read first
Consumes-prepended first None = tt
Consumes-prepended first (Some xs) = refl
