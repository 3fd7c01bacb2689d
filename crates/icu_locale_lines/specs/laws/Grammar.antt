-- Words of the form of what they ask for are parsed as it.
use Rattle.std.specs.Prelude.{◌≡◌, ℕ, Bool, true, false, ◌||◌, List, ◌∷◌, ◌++◌, codes, Option, None, Some, if◌then◌else◌}
use Rattle.std.proofs.Common.{refl, ap, sym, ◌∙◌}
use Rattle.std.specs.Option.{option_and_then, option_map}
use Rattle.std.specs.Str.{bytes_eq}
use Rattle.std.proofs.lemmas.Bool.{false≢true}
use Rattle.std.proofs.lemmas.Slice.Eq.{bytes_eq-Decides}
use Rattle.icu_locale_extensions.specs.declared.syntax.Syntax.{Syntax}
use Rattle.icu_locale_extensions.specs.declared.syntax.Syntax.TheVariants.{Unicode, Bcp47, Posix}
use Rattle.icu_locale_names.specs.LanguageChains.{chain_word}
use Rattle.icu_locale_names.specs.declared.name_chain.NameChain.{NameChain}
use Rattle.icu_locale_names.specs.declared.name_chain.NameChain.TheVariants as chain
use Rattle.icu_locale_lines.specs.CommandWords.{bound_at, chain_at, exemplars_at, exemplars_word, kind_of, kind_word, limit_at, named, subtags_word, subtags_at}
use Rattle.icu_locale_lines.specs.Grammar.{asked_by, asked_for, command_by, given_flags, given_next, limit_next, lines_of, named_task, number_next, parse, parse_behind, parse_command, parse_lines, parse_named, placed_lines}
use Rattle.icu_locale_lines.specs.CommandWords.{preferences_at, region_chain_word, region_chains, script_chain_word, script_chains, subtag_chain_word, syntax_at, task_word, usual, wishes_word}
use Rattle.icu_locale_lines.specs.Grammar.{parse_served, parse_source, said_first, subtag_task, task_by, word_next}
use Rattle.icu_locale_names.specs.declared.options.DisplayNamesPreferences.{DisplayNamesPreferences}
use Rattle.icu_provider.specs.declared.exemplars.ExemplarMarker.{ExemplarMarker}
use Rattle.icu_provider.specs.declared.exemplars.ExemplarMarker.TheVariants.{Main, Auxiliary, Punctuation, Numbers, Index}
use Rattle.icu_locale_lines.specs.declared.work.subtag.RegionChain.{RegionChain}
use Rattle.icu_locale_lines.specs.declared.work.subtag.RegionChain.TheVariants as regions
use Rattle.icu_locale_lines.specs.declared.work.subtag.ScriptChain.{ScriptChain}
use Rattle.icu_locale_lines.specs.declared.work.subtag.ScriptChain.TheVariants as scripts
use Rattle.icu_locale_lines.specs.declared.work.subtag.SubtagChain.{SubtagChain}
use Rattle.icu_locale_lines.specs.declared.work.subtag.SubtagChain.TheVariants as subtag
use Rattle.icu_locale_lines.specs.declared.work.subtag.SubtagKind.{SubtagKind}
use Rattle.icu_locale_lines.specs.declared.work.subtag.SubtagKind.TheVariants as kind
use Rattle.icu_locale_lines.specs.declared.asked.Asked.{Asked}
use Rattle.icu_locale_lines.specs.declared.asked.Source.{Source}
use Rattle.icu_locale_lines.specs.declared.asked.Source.TheVariants.{Sample, Json, JsonAndSupplement}
use Rattle.icu_locale_lines.specs.declared.command.Command.{Command}
use Rattle.icu_locale_lines.specs.declared.command.Command.TheVariants.{Settled, Lines}
use Rattle.icu_locale_lines.specs.declared.command.Task.{Task}
use Rattle.icu_locale_lines.specs.declared.command.Task.TheVariants.{Form, Canonicalize, Direction, Negotiate, Name, Fallback, Serve, Distance, Parts, Key, Validate, SubtagName, Exemplars, Subtags}
use Rattle.icu_locale_lines.specs.declared.command.KeyOf.TheVariants.{Whole, Identifier}
use Rattle.icu_locale_lines.specs.declared.command.Wishes.{Wishes}
use Rattle.icu_locale_lines.specs.declared.given.Given.{Given}
use Rattle.icu_locale_lines.specs.declared.command.Wishes.TheVariants.{Header, Requests, Resolved}
use Rattle.icu_locale_lines.specs.declared.work.form.Form.TheVariants.{Maximize, Minimize, MinimizeScript}
use Rattle.icu_locale_lines.specs.laws.Forms.{arguments, HasPreferences, source_words, syntax_words, command_words, CommandHas, number_words, IsSaid, word_said, given_words, AreWordsOf}

pub chain_found : (c : NameChain) → chain_at (chain_word c) ≡ Some c
chain_found chain.Tiny = refl
chain_found chain.Light = refl
chain_found chain.ShortLight = refl
chain_found chain.LongLight = refl
chain_found chain.MenuLight = refl
chain_found chain.ShortMenuLight = refl
chain_found chain.Heavy = refl
chain_found chain.ShortHeavy = refl
chain_found chain.LongHeavy = refl
chain_found chain.MenuHeavy = refl
chain_found chain.ShortMenuHeavy = refl

exemplars_found : (m : ExemplarMarker) → exemplars_at (exemplars_word m) ≡ Some m
exemplars_found Main = refl
exemplars_found Auxiliary = refl
exemplars_found Punctuation = refl
exemplars_found Numbers = refl
exemplars_found Index = refl

subtags_found : (k : SubtagKind) → subtags_at (subtags_word k) ≡ Some k
subtags_found kind.Language = refl
subtags_found kind.Script = refl
subtags_found kind.Region = refl
subtags_found kind.Variant = refl

script_found : (c : ScriptChain) → named script_chain_word script_chains (script_chain_word c) ≡ Some c
script_found scripts.Tiny = refl
script_found scripts.Light = refl
script_found scripts.Heavy = refl
script_found scripts.ShortHeavy = refl

region_found : (c : RegionChain) → named region_chain_word region_chains (region_chain_word c) ≡ Some c
region_found regions.Tiny = refl
region_found regions.ShortTiny = refl
region_found regions.Light = refl
region_found regions.ShortLight = refl

subtag_found : (c : SubtagChain) (p : DisplayNamesPreferences) → subtag_task (kind_word (kind_of c)) (subtag_chain_word c) p ≡ Some (SubtagName c p)
subtag_found (subtag.Language c) p = ap (λ o. option_map (λ d. SubtagName d p) (option_map subtag.Language o)) (chain_found c)
subtag_found (subtag.Script c) p = ap (λ o. option_map (λ d. SubtagName d p) (option_map subtag.Script o)) (script_found c)
subtag_found (subtag.Region c) p = ap (λ o. option_map (λ d. SubtagName d p) (option_map subtag.Region o)) (region_found c)
subtag_found subtag.Variant p = refl

source_parsed : (s : Source) → parse_source (source_words s) ≡ Some s
source_parsed Sample = refl
source_parsed Json = refl
source_parsed JsonAndSupplement = refl

-- the words that may stand before a command, but that of a syntax
abbrev is_before : List ℕ → Bool
is_before w = bytes_eq w (codes "longest") || (bytes_eq w (codes "threshold") || (bytes_eq w (codes "demotion")
    || (bytes_eq w (codes "favor-script") || (bytes_eq w (codes "or-first") || bytes_eq w (codes "places")))))

kind_apart : (k : SubtagKind) → (syntax_at (kind_word k) ≡ None) × (is_before (kind_word k) ≡ false)
kind_apart kind.Language = (refl, refl)
kind_apart kind.Script = (refl, refl)
kind_apart kind.Region = (refl, refl)
kind_apart kind.Variant = (refl, refl)

wish_apart : (w : Wishes) → (syntax_at (wishes_word w) ≡ None) × (is_before (wishes_word w) ≡ false)
wish_apart Header = (refl, refl)
wish_apart Requests = (refl, refl)
wish_apart Resolved = (refl, refl)

-- the word of a task is none of them, and that of no syntax
apart : (t : Task) → (syntax_at (task_word t) ≡ None) × (is_before (task_word t) ≡ false)
apart (Form Maximize) = (refl, refl)
apart (Form Minimize) = (refl, refl)
apart (Form MinimizeScript) = (refl, refl)
apart Canonicalize = (refl, refl)
apart Direction = (refl, refl)
apart Negotiate = (refl, refl)
apart (Name chain preferences) = (refl, refl)
apart Fallback = (refl, refl)
apart (Serve served) = wish_apart served.wishes
apart Distance = (refl, refl)
apart Parts = (refl, refl)
apart (Key Whole) = (refl, refl)
apart (Key Identifier) = (refl, refl)
apart Validate = (refl, refl)
apart (SubtagName chain preferences) = kind_apart (kind_of chain)
apart (Exemplars marker preferences) = (refl, refl)
apart (Subtags kind preferences) = (refl, refl)

-- a command as its word has it: readers are served as ICU does
abbrev usual_task : Task → Task
usual_task (Serve served) = Serve (usual served.wishes)
usual_task t = t

abbrev usually : Command → Command
usually Settled = Settled
usually (Lines c) = lines_of c.syntax (usual_task c.task)

module _ (longest : Option ℕ) (s : Source) (text : List ℕ) where
  abbrev asks : Command → Option Asked
  asks c = Some (record { longest = longest; command = c; source = s })

  alone : (c : Command) → asked_for longest (Some c) (parse_source (source_words s)) ≡ asks c
  alone c = ap (asked_for longest (Some c)) (source_parsed s)

  wish_parsed : (syntax : Option Syntax) (w : Wishes) → parse_command longest syntax (wishes_word w) (source_words s) ≡ asks (lines_of syntax (Serve (usual w)))
  wish_parsed syntax Header = alone (lines_of syntax (Serve (usual Header)))
  wish_parsed syntax Requests = alone (lines_of syntax (Serve (usual Requests)))
  wish_parsed syntax Resolved = alone (lines_of syntax (Serve (usual Resolved)))

  -- a choice and a locale behind a word
  argued : (syntax : Option Syntax) (w choice : List ℕ) (t : Task) (p : DisplayNamesPreferences) → preferences_at text ≡ Some p
      → named_task w choice p ≡ Some t → parse_named longest syntax w (choice ∷ text ∷ source_words s) ≡ asks (lines_of syntax t)
  argued syntax w choice t p has is =
      (λ i. asked_for longest (option_map (lines_of syntax) (option_and_then (named_task w choice) (has i))) (parse_source (source_words s)))
      ∙ (λ i. asked_for longest (option_map (lines_of syntax) (is i)) (parse_source (source_words s))) ∙ alone (lines_of syntax t)

  kind_parsed : (syntax : Option Syntax) (k : SubtagKind) (choice : List ℕ) (t : Task) (p : DisplayNamesPreferences) → preferences_at text ≡ Some p
      → subtag_task (kind_word k) choice p ≡ Some t → parse_command longest syntax (kind_word k) (choice ∷ text ∷ source_words s) ≡ asks (lines_of syntax t)
  kind_parsed syntax kind.Language choice t p has is = argued syntax (kind_word kind.Language) choice t p has is
  kind_parsed syntax kind.Script choice t p has is = argued syntax (kind_word kind.Script) choice t p has is
  kind_parsed syntax kind.Region choice t p has is = argued syntax (kind_word kind.Region) choice t p has is
  kind_parsed syntax kind.Variant choice t p has is = argued syntax (kind_word kind.Variant) choice t p has is

  task_parsed : (syntax : Option Syntax) (t : Task) → HasPreferences t text
      → parse_command longest syntax (task_word t) (arguments t text ++ source_words s) ≡ asks (lines_of syntax (usual_task t))
  task_parsed syntax (Form Maximize) has = alone (lines_of syntax (Form Maximize))
  task_parsed syntax (Form Minimize) has = alone (lines_of syntax (Form Minimize))
  task_parsed syntax (Form MinimizeScript) has = alone (lines_of syntax (Form MinimizeScript))
  task_parsed syntax Canonicalize has = alone (lines_of syntax Canonicalize)
  task_parsed syntax Direction has = alone (lines_of syntax Direction)
  task_parsed syntax Negotiate has = alone (lines_of syntax Negotiate)
  task_parsed syntax Fallback has = alone (lines_of syntax Fallback)
  task_parsed syntax (Serve served) has = wish_parsed syntax served.wishes
  task_parsed syntax Distance has = alone (lines_of syntax Distance)
  task_parsed syntax Parts has = alone (lines_of syntax Parts)
  task_parsed syntax (Key Whole) has = alone (lines_of syntax (Key Whole))
  task_parsed syntax (Key Identifier) has = alone (lines_of syntax (Key Identifier))
  task_parsed syntax Validate has = alone (lines_of syntax Validate)
  task_parsed syntax (Name chain p) has =
      argued syntax (codes "name") (chain_word chain) (Name chain p) p has (ap (option_map (λ c. Name c p)) (chain_found chain))
  task_parsed syntax (Exemplars marker p) has = argued syntax (codes "exemplars") (exemplars_word marker) (Exemplars marker p) p has
      (ap (option_map (λ m. Exemplars m p)) (exemplars_found marker))
  task_parsed syntax (Subtags kind p) has = argued syntax (codes "list") (subtags_word kind) (Subtags kind p) p has
      (ap (option_map (λ k. Subtags k p)) (subtags_found kind))
  task_parsed syntax (SubtagName chain p) has =
      kind_parsed syntax (kind_of chain) (subtag_chain_word chain) (SubtagName chain p) p has (subtag_found chain p)

  command_parsed : (c : Command) → CommandHas c text → parse_lines longest (command_words c text (source_words s)) ≡ asks (usually c)
  command_parsed Settled has = alone Settled
  command_parsed (Lines c) has = by c.syntax (task_parsed c.syntax c.task has)
    where
      by : (syntax : Option Syntax) → parse_command longest syntax (task_word c.task) (arguments c.task text ++ source_words s) ≡ asks (lines_of syntax (usual_task c.task))
          → parse_lines longest (syntax_words syntax ++ (task_word c.task ∷ arguments c.task text ++ source_words s)) ≡ asks (lines_of syntax (usual_task c.task))
      by None parsed = ap (λ o. parse_behind longest o (task_word c.task) (arguments c.task text ++ source_words s)) (apart c.task).0 ∙ parsed
      by (Some Unicode) parsed = parsed
      by (Some Bcp47) parsed = parsed
      by (Some Posix) parsed = parsed

-- what is given overrides what is usual
task_usually : (given : Given) (t : Task) → task_by given (usual_task t) ≡ task_by given t
task_usually given (Form form) = refl
task_usually given Canonicalize = refl
task_usually given Direction = refl
task_usually given Negotiate = refl
task_usually given (Name chain preferences) = refl
task_usually given Fallback = refl
task_usually given (Serve served) = refl
task_usually given Distance = refl
task_usually given Parts = refl
task_usually given (Key of) = refl
task_usually given Validate = refl
task_usually given (SubtagName chain preferences) = refl
task_usually given (Exemplars marker preferences) = refl
task_usually given (Subtags kind preferences) = refl

command_usually : (given : Given) (c : Command) → command_by given (usually c) ≡ command_by given c
command_usually given Settled = refl
command_usually given (Lines c) = ap (option_and_then (placed_lines given.places c.syntax)) (task_usually given c.task)

-- words that do not begin with this one
abbrev Skips : List ℕ → List (List ℕ) → Type 0
Skips name ws = word_next name ws ≡ (false, ws)

skipped : (name w : List ℕ) (ws : List (List ℕ)) → bytes_eq w name ≡ false → Skips name (w ∷ ws)
skipped name w ws other = ap (λ b. if b then (true, ws) else (false, w ∷ ws)) other

taken : (name : List ℕ) (ws : List (List ℕ)) → word_next name (name ∷ ws) ≡ (true, ws)
taken name ws = ap (λ b. if b then (true, ws) else (false, name ∷ ws)) ((bytes_eq-Decides name name).1 refl)

-- words that begin with none of those before a command
record AreBehind (ws : List (List ℕ)) : Type 0 where
  longest : Skips (codes "longest") ws
  threshold : Skips (codes "threshold") ws
  demotion : Skips (codes "demotion") ws
  favor : Skips (codes "favor-script") ws
  first : Skips (codes "or-first") ws
  places : Skips (codes "places") ws

neither : (a b : Bool) → (a || b) ≡ false → (a ≡ false) × (b ≡ false)
neither true b is = absurd (false≢true (sym is))
neither false b is = (refl, is)

are_behind : (w : List ℕ) (ws : List (List ℕ)) → is_before w ≡ false → AreBehind (w ∷ ws)
are_behind w ws none =
    let a = neither _ _ none in
    let b = neither _ _ a.1 in
    let c = neither _ _ b.1 in
    let d = neither _ _ c.1 in
    let e = neither _ _ d.1 in
    record {
      longest = skipped (codes "longest") w ws a.0;
      threshold = skipped (codes "threshold") w ws b.0;
      demotion = skipped (codes "demotion") w ws c.0;
      favor = skipped (codes "favor-script") w ws d.0;
      first = skipped (codes "or-first") w ws e.0;
      places = skipped (codes "places") w ws e.1;
    }

command_behind : (c : Command) (text : List ℕ) (ws : List (List ℕ)) → AreBehind (command_words c text ws)
command_behind Settled text ws = are_behind (codes "settled") ws refl
command_behind (Lines c) text ws = by c.syntax
  where
    by : (syntax : Option Syntax) → AreBehind (syntax_words syntax ++ (task_word c.task ∷ arguments c.task text ++ ws))
    by None = are_behind (task_word c.task) (arguments c.task text ++ ws) (apart c.task).1
    by (Some Unicode) = are_behind (codes "locales") (task_word c.task ∷ arguments c.task text ++ ws) refl
    by (Some Bcp47) = are_behind (codes "bcp47") (task_word c.task ∷ arguments c.task text ++ ws) refl
    by (Some Posix) = are_behind (codes "posix") (task_word c.task ∷ arguments c.task text ++ ws) refl

-- and so do others before them
behind_number : (name other : List ℕ) (o : Option ℕ) (text : List ℕ) (ws : List (List ℕ)) → bytes_eq other name ≡ false → Skips name ws
    → Skips name (number_words other o text ws)
behind_number name other None text ws apart rest = rest
behind_number name other (Some n) text ws apart rest = skipped name other (text ∷ ws) apart

behind_word : (name other : List ℕ) (said : Bool) (ws : List (List ℕ)) → bytes_eq other name ≡ false → Skips name ws → Skips name (word_said other said ws)
behind_word name other true ws apart rest = skipped name other ws apart
behind_word name other false ws apart rest = rest

-- a number and a word, where they are said
number_parsed : (at : List ℕ → Option ℕ) (name : List ℕ) (o : Option ℕ) (text : List ℕ) (ws : List (List ℕ)) → IsSaid at o text → Skips name ws
    → number_next at name (number_words name o text ws) ≡ Some (o, ws)
number_parsed at name None text ws said other = ap (λ (p : Bool × List (List ℕ)). if p.0 then said_first at p.1 else Some (None, ws)) other
number_parsed at name (Some n) text ws said other =
    ap (λ (p : Bool × List (List ℕ)). if p.0 then said_first at p.1 else Some (None, name ∷ text ∷ ws)) (taken name (text ∷ ws))
    ∙ ap (option_map (λ m. (Some m, ws))) said

word_taken : (name : List ℕ) (said : Bool) (ws : List (List ℕ)) → Skips name ws → word_next name (word_said name said ws) ≡ (said, ws)
word_taken name true ws other = taken name ws
word_taken name false ws other = other

module _ (given : Given) (threshold demotion : List ℕ) (ws : List (List ℕ)) (behind : AreBehind ws) where
  abbrev places : List (List ℕ)
  places = word_said (codes "places") given.places ws

  abbrev firsts : List (List ℕ)
  firsts = word_said (codes "or-first") given.or_first places

  abbrev favors : List (List ℕ)
  favors = word_said (codes "favor-script") given.favor_script firsts

  abbrev demotions : List (List ℕ)
  demotions = number_words (codes "demotion") given.demotion demotion favors

  before_firsts : (name : List ℕ) → bytes_eq (codes "or-first") name ≡ false → bytes_eq (codes "places") name ≡ false → Skips name ws
      → Skips name firsts
  before_firsts name first place rest =
      behind_word name (codes "or-first") given.or_first places first (behind_word name (codes "places") given.places ws place rest)

  before_favors : (name : List ℕ) → bytes_eq (codes "favor-script") name ≡ false → bytes_eq (codes "or-first") name ≡ false
      → bytes_eq (codes "places") name ≡ false → Skips name ws → Skips name favors
  before_favors name favor first place rest =
      behind_word name (codes "favor-script") given.favor_script firsts favor (before_firsts name first place rest)

  flags_parsed : given_flags given.threshold given.demotion favors ≡ (given, ws)
  flags_parsed =
      let favor = word_taken (codes "favor-script") given.favor_script firsts
      (before_firsts (codes "favor-script") refl refl behind.favor) in
      let first = word_taken (codes "or-first") given.or_first places
      (behind_word (codes "or-first") (codes "places") given.places ws refl behind.first) in
      let place = word_taken (codes "places") given.places ws behind.places in
      (λ i. (
        record {
          threshold = given.threshold;
          demotion = given.demotion;
          favor_script = (favor i).0;
          or_first = (word_next (codes "or-first") (favor i).1).0;
          places = (word_next (codes "places") (word_next (codes "or-first") (favor i).1).1).0;
        },
        (word_next (codes "places") (word_next (codes "or-first") (favor i).1).1).1,
      ))
      ∙ (λ i. (
        record {
          threshold = given.threshold;
          demotion = given.demotion;
          favor_script = given.favor_script;
          or_first = (first i).0;
          places = (word_next (codes "places") (first i).1).0;
        },
        (word_next (codes "places") (first i).1).1,
      ))
      ∙ (λ i. (
        record {
          threshold = given.threshold;
          demotion = given.demotion;
          favor_script = given.favor_script;
          or_first = given.or_first;
          places = (place i).0;
        },
        (place i).1,
      ))

  given_parsed : IsSaid limit_at given.threshold threshold → IsSaid limit_at given.demotion demotion
      → given_next (given_words given threshold demotion ws) ≡ Some (given, ws)
  given_parsed t d =
      ap (option_and_then (λ (p : Option ℕ × List (List ℕ)). option_map
      (λ (q : Option ℕ × List (List ℕ)). given_flags p.0 q.0 q.1) (limit_next (codes "demotion") p.1)))
      (number_parsed limit_at (codes "threshold") given.threshold threshold demotions t
      (behind_number (codes "threshold") (codes "demotion") given.demotion demotion favors refl
      (before_favors (codes "threshold") refl refl refl behind.threshold)))
      ∙ ap (option_map (λ (q : Option ℕ × List (List ℕ)). given_flags given.threshold q.0 q.1))
      (number_parsed limit_at (codes "demotion") given.demotion demotion favors d (before_favors (codes "demotion") refl refl refl behind.demotion))
      ∙ ap (λ p. Some p) flags_parsed

  unbounded : Skips (codes "longest") (given_words given threshold demotion ws)
  unbounded =
      behind_number (codes "longest") (codes "threshold") given.threshold threshold demotions refl
      (behind_number (codes "longest") (codes "demotion") given.demotion demotion favors refl
      (before_favors (codes "longest") refl refl refl behind.longest))

pub words_parsed : (asked : Asked) (words : List (List ℕ)) → AreWordsOf asked words → parse words ≡ Some asked
unfolding parse
words_parsed asked words are =
    let commands = command_words are.command are.text (source_words asked.source) in
    let behind = command_behind are.command are.text (source_words asked.source) in
    ap parse are.whole
    ∙ ap (option_and_then (λ (l : Option ℕ × List (List ℕ)). parse_served l.0 l.1))
    (number_parsed bound_at (codes "longest") asked.longest are.number (given_words are.given are.threshold are.demotion commands) are.said
    (unbounded are.given are.threshold are.demotion commands behind))
    ∙ ap (option_and_then (λ (g : Given × List (List ℕ)). option_and_then (asked_by g.0) (parse_lines asked.longest g.1)))
    (given_parsed are.given are.threshold are.demotion commands behind are.threshold_said are.demotion_said)
    ∙ ap (option_and_then (asked_by are.given)) (command_parsed asked.longest asked.source are.text are.command are.spelled)
    ∙ ap (option_map (λ (c : Command). record { longest = asked.longest; command = c; source = asked.source }))
    (command_usually are.given are.command ∙ are.served)
