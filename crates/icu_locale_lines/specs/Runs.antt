-- What a run reads and writes.
use Rattle.std.specs.Prelude.{◌≡◌, ◌≢◌, ◌↔◌, ℕ, Bool, true, List, [], ◌∷◌, ◌++◌}
use Rattle.std.specs.List.{AllZip, flat_map, list_all}
use Rattle.std.specs.Io.KnownBytes.{Appends, Consumes, IsAtEnd}
use Rattle.icu_locale_lines.specs.declared.runs.Status.{Status}
use Rattle.icu_locale_lines.specs.declared.runs.Status.TheVariants.{Accepted}
use Rattle.icu_locale_lines.specs.declared.work.Work.{Work}
use Rattle.icu_locale_lines.specs.Answers.{IsAnswer}
use Rattle.icu_locale_lines.specs.Lines.{lines, Stream}

-- the answers to lines, in their order: the text of each, and whether its line was accepted
abbrev pub AreAnswers : Work → List (List ℕ) → List (List ℕ × Bool) → Type 0
AreAnswers work ls answers = AllZip (λ line a. IsAnswer work line a.0 a.1) ls answers

-- their texts, one after another
abbrev pub text_of_lines : List (List ℕ × Bool) → List ℕ
text_of_lines answers = flat_map (λ a. a.0) answers

-- every line was accepted
abbrev pub all_accepted : List (List ℕ × Bool) → Bool
all_accepted answers = list_all (λ a. a.1) answers

-- the input is what the reader had, to its end
pub record ReadsAll (old new : Stream) (input : List ℕ) : Type 0 where
  pub consumed : Consumes old new input
  pub ended : IsAtEnd new

-- the answer to every line of the input is written, in order, and nothing else
pub record WritesAll (work : Work) (input : List ℕ) (old new : Stream)
    (status : Status) : Type 0 where
  pub answers : List (List ℕ × Bool)
  pub each : AreAnswers work (lines input) answers
  pub written : Appends old new (text_of_lines answers)
  pub status_is : (status ≡ Accepted) ↔ (all_accepted answers ≡ true)

-- lines have answers, in order, whose text is written but for what is pending
pub record Answered (work : Work) (ls : List (List ℕ)) (pending : List ℕ) (old new : Stream)
    (status : Status) : Type 0 where
  pub answers : List (List ℕ × Bool)
  pub each : AreAnswers work ls answers
  pub sent : List ℕ
  pub written : Appends old new sent
  pub parted : text_of_lines answers ≡ sent ++ pending
  pub status_is : (status ≡ Accepted) ↔ (all_accepted answers ≡ true)

-- so have the first of them, up to rest
pub record AnswersFirst (work : Work) (ls : List (List ℕ)) (pending : List ℕ) (old new : Stream)
    (status : Status) (rest : List (List ℕ)) : Type 0 where
  pub first : List (List ℕ)
  pub parted : ls ≡ first ++ rest
  pub answered : Answered work first pending old new status

-- a line found no memory: the answers to all lines before it are written, and nothing else
abbrev pub WritesEarlier : Work → List ℕ → Stream → Stream → Type 0
WritesEarlier work input old new = (status : Status) × (line : List ℕ)
    × (rest : List (List ℕ)) × AnswersFirst work (lines input) [] old new status (line ∷ rest)

-- of the answers to the first lines a beginning is written that is not the whole
abbrev pub WritesPart : Work → List ℕ → Stream → Stream → Type 0
WritesPart work input old new = (status : Status) × (pending : List ℕ)
    × (rest : List (List ℕ)) × (pending ≢ [])
    × AnswersFirst work (lines input) pending old new status rest
