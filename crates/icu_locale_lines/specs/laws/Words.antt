-- Words that are parsed as something asked for have its form, and no other.
use Rattle.std.specs.Prelude.{◌≡◌, ℕ, Bool, true, false, List, [], ◌∷◌, ◌++◌, codes, Option, None, Some, if◌then◌else◌}
use Rattle.std.proofs.Common.{refl, ap, sym, subst, ◌∙◌}
use Rattle.std.specs.List.{slice_split}
use Rattle.std.specs.Option.{option_and_then, option_map}
use Rattle.std.specs.Str.{bytes_eq}
use Rattle.std.proofs.lemmas.Option.{none-some, same_Some}
use Rattle.std.proofs.lemmas.Slice.Eq.{bytes_eq-Decides}
use Rattle.icu_locale_lines.specs.CommandWords.{bound_at, kind_of, kind_word, limit_at}
use Rattle.icu_locale_lines.specs.Grammar.{asked_by, command_by, given_flags, given_next, limit_next, lines_of, longest_next, number_next, parse, parse_lines}
use Rattle.icu_locale_lines.specs.CommandWords.{task_at, task_word, tasks, wishes_word}
use Rattle.icu_locale_lines.specs.Grammar.{parse_served, placed_lines, said_first, word_next}
use Rattle.icu_locale_lines.specs.Lists.{is_space}
use Rattle.icu_locale_lines.specs.declared.work.subtag.SubtagKind.{SubtagKind}
use Rattle.icu_locale_lines.specs.declared.work.subtag.SubtagKind.TheVariants as kind
use Rattle.icu_locale_lines.specs.declared.asked.Asked.{Asked}
use Rattle.icu_locale_lines.specs.declared.asked.Source.TheVariants.{Sample}
use Rattle.icu_locale_lines.specs.declared.command.Command.{Command}
use Rattle.icu_locale_lines.specs.declared.command.Task.{Task}
use Rattle.icu_locale_lines.specs.declared.command.Task.TheVariants.{Form, Canonicalize, Direction, Negotiate, Name, Fallback, Serve, Distance, Parts, Key, Validate, SubtagName, Exemplars, Subtags}
use Rattle.icu_locale_lines.specs.declared.command.KeyOf.TheVariants.{Whole, Identifier}
use Rattle.icu_locale_lines.specs.declared.command.Wishes.{Wishes}
use Rattle.icu_locale_lines.specs.declared.given.Given.{Given}
use Rattle.icu_locale_lines.specs.declared.command.Wishes.TheVariants.{Header, Requests, Resolved}
use Rattle.icu_locale_lines.specs.declared.work.form.Form.TheVariants.{Maximize, Minimize, MinimizeScript}
use Rattle.icu_locale_lines.specs.laws.Forms.{AreWordsOf, IsSaid, command_words, given_words, number_words, source_words, word_said}
use Rattle.icu_locale_lines.specs.laws.Grammar.{words_parsed}
use Rattle.icu_locale_lines.specs.laws.CommandWords.{lone, lines_told, unsaid, AreTold, IsLone, named_sound}

abbrev if_next : List ℕ → List (List ℕ) → Bool → Bool × List (List ℕ)
if_next w ws b = if b then (true, ws) else (false, w ∷ ws)

word_found : (name : List ℕ) (ws : List (List ℕ)) → ws ≡ word_said name (word_next name ws).0 (word_next name ws).1
word_found name [] = refl
word_found name (w ∷ ws) = by (bytes_eq w name) refl
  where
    by : (b : Bool) → bytes_eq w name ≡ b → w ∷ ws ≡ word_said name (word_next name (w ∷ ws)).0 (word_next name (w ∷ ws)).1
    by true is = ap (λ v. v ∷ ws) ((bytes_eq-Decides w name).0 is) ∙ sym (ap (λ b. word_said name (if_next w ws b).0 (if_next w ws b).1) is)
    by false is = sym (ap (λ b. word_said name (if_next w ws b).0 (if_next w ws b).1) is)

-- words have a number, and others behind it
abbrev HasNumber : (List ℕ → Option ℕ) → List ℕ → List (List ℕ) → Option ℕ × List (List ℕ) → Type 0
HasNumber at name ws p = (text : List ℕ) × IsSaid at p.0 text × (ws ≡ number_words name p.0 text p.1)

number_told : (at : List ℕ → Option ℕ) (name : List ℕ) (ws : List (List ℕ)) (p : Option ℕ × List (List ℕ)) → number_next at name ws ≡ Some p
    → HasNumber at name ws p
number_told at name ws p e = by (word_next name ws).0 (word_next name ws).1 refl refl
  where
    said : (n : List ℕ) (vs : List (List ℕ)) → ws ≡ name ∷ n ∷ vs → (o : Option ℕ) → at n ≡ o → option_map (λ m. (Some m, vs)) o ≡ Some p
        → HasNumber at name ws p
    said n vs same None is f = absurd (none-some p f)
    said n vs same (Some m) is f = subst (HasNumber at name ws) (same_Some (Some m, vs) p f) (n, is, same)

    behind : (vs : List (List ℕ)) → ws ≡ name ∷ vs → said_first at vs ≡ Some p → HasNumber at name ws p
    behind [] same f = absurd (none-some p f)
    behind (n ∷ vs) same f = said n vs same (at n) refl f

    by : (b : Bool) (vs : List (List ℕ)) → (word_next name ws).0 ≡ b → (word_next name ws).1 ≡ vs → HasNumber at name ws p
    by true vs is rest = behind vs (word_found name ws ∙ (λ i. word_said name (is i) (rest i)))
        (sym (λ i. if is i then said_first at (rest i) else Some (None, ws)) ∙ e)
    by false vs is rest = subst (HasNumber at name ws) (same_Some (None, ws) p (sym (λ i. if is i then said_first at (rest i) else Some (None, ws)) ∙ e))
        ([], tt, refl)

-- words say how readers are served, and others are behind them
abbrev HasGiven : List (List ℕ) → Given × List (List ℕ) → Type 0
HasGiven ws p = (threshold demotion : List ℕ) × IsSaid limit_at p.0.threshold threshold × IsSaid limit_at p.0.demotion demotion
    × (ws ≡ given_words p.0 threshold demotion p.1)

given_told : (ws : List (List ℕ)) (p : Given × List (List ℕ)) → given_next ws ≡ Some p → HasGiven ws p
given_told ws p e = by (limit_next (codes "threshold") ws) refl e
  where
    both : (a b : Option ℕ × List (List ℕ)) → HasNumber limit_at (codes "threshold") ws a → HasNumber limit_at (codes "demotion") a.1 b
        → HasGiven ws (given_flags a.0 b.0 b.1)
    both a b t d = (
      t.0,
      d.0,
      t.1,
      d.1,
      t.2 ∙ ap (number_words (codes "threshold") a.0 t.0) (d.2 ∙ ap (number_words (codes "demotion") b.0 d.0)
          (word_found (codes "favor-script") b.1 ∙ ap (word_said (codes "favor-script") (word_next (codes "favor-script") b.1).0)
          (word_found (codes "or-first") (word_next (codes "favor-script") b.1).1
          ∙ ap (word_said (codes "or-first") (word_next (codes "or-first") (word_next (codes "favor-script") b.1).1).0)
          (word_found (codes "places") (word_next (codes "or-first") (word_next (codes "favor-script") b.1).1).1)))),
    )

    next_told : (a : Option ℕ × List (List ℕ)) → HasNumber limit_at (codes "threshold") ws a → (o : Option (Option ℕ × List (List ℕ)))
        → limit_next (codes "demotion") a.1 ≡ o → option_map (λ (q : Option ℕ × List (List ℕ)). given_flags a.0 q.0 q.1) o ≡ Some p → HasGiven ws p
    next_told a t None is f = absurd (none-some p f)
    next_told a t (Some b) is f = subst (HasGiven ws) (same_Some (given_flags a.0 b.0 b.1) p f) (both a b t (number_told limit_at (codes "demotion") a.1 b is))

    by : (o : Option (Option ℕ × List (List ℕ))) → limit_next (codes "threshold") ws ≡ o
        → option_and_then (λ (a : Option ℕ × List (List ℕ)). option_map (λ (q : Option ℕ × List (List ℕ)). given_flags a.0 q.0 q.1)
        (limit_next (codes "demotion") a.1)) o ≡ Some p → HasGiven ws p
    by None is f = absurd (none-some p f)
    by (Some a) is f = next_told a (number_told limit_at (codes "threshold") ws a is) (limit_next (codes "demotion") a.1) refl f

pub words_told : (a : Asked) (words : List (List ℕ)) → parse words ≡ Some a → AreWordsOf a words
unfolding parse
words_told a words e = by (longest_next words) refl e
  where
    whole : (l : Option ℕ × List (List ℕ)) → HasNumber bound_at (codes "longest") words l → (g : Given × List (List ℕ)) → HasGiven l.1 g
        → (b : Asked) → AreTold l.0 None g.1 b → (o : Option Command) → command_by g.0 b.command ≡ o
        → option_map (λ (c : Command). record b { command = c }) o ≡ Some a → AreWordsOf a words
    whole l n g h b told None is f = absurd (none-some a f)
    whole l n g h b told (Some c) is f = subst (λ (x : Asked). AreWordsOf x words) (same_Some (record b { command = c }) a f) (record {
      number = n.0;
      threshold = h.0;
      demotion = h.1;
      text = told.1.0;
      given = g.0;
      command = b.command;
      said = subst (λ (o : Option ℕ). IsSaid bound_at o n.0) (sym told.0) n.1;
      threshold_said = h.2;
      demotion_said = h.3;
      spelled = told.1.1;
      served = is;
      whole = n.2 ∙ ap (number_words (codes "longest") l.0 n.0) (h.4 ∙ ap (given_words g.0 h.0 h.1) told.1.2)
          ∙ ap (λ (o : Option ℕ). number_words (codes "longest") o n.0
          (given_words g.0 h.0 h.1 (command_words b.command told.1.0 (source_words b.source)))) (sym told.0);
    })

    commanded : (l : Option ℕ × List (List ℕ)) → HasNumber bound_at (codes "longest") words l → (g : Given × List (List ℕ)) → HasGiven l.1 g
        → (o : Option Asked) → parse_lines l.0 g.1 ≡ o → option_and_then (asked_by g.0) o ≡ Some a → AreWordsOf a words
    commanded l n g h None is f = absurd (none-some a f)
    commanded l n g h (Some b) is f = whole l n g h b (lines_told l.0 g.1 b is) (command_by g.0 b.command) refl f

    behind : (l : Option ℕ × List (List ℕ)) → HasNumber bound_at (codes "longest") words l → (o : Option (Given × List (List ℕ)))
        → given_next l.1 ≡ o → option_and_then (λ (g : Given × List (List ℕ)). option_and_then (asked_by g.0) (parse_lines l.0 g.1)) o ≡ Some a
        → AreWordsOf a words
    behind l n None is f = absurd (none-some a f)
    behind l n (Some g) is f = commanded l n g (given_told l.1 g is) (parse_lines l.0 g.1) refl f

    by : (o : Option (Option ℕ × List (List ℕ))) → longest_next words ≡ o
        → option_and_then (λ (l : Option ℕ × List (List ℕ)). parse_served l.0 l.1) o ≡ Some a → AreWordsOf a words
    by None is f = absurd (none-some a f)
    by (Some l) is f = behind l (number_told bound_at (codes "longest") words l is) (given_next l.1) refl f

-- a text that is the word of a task has no space
one_word : (t : Task) → slice_split is_space (task_word t) ≡ task_word t ∷ []
one_word (Form Maximize) = refl
one_word (Form Minimize) = refl
one_word (Form MinimizeScript) = refl
one_word Canonicalize = refl
one_word Direction = refl
one_word Negotiate = refl
one_word (Name chain preferences) = refl
one_word Fallback = refl
one_word (Serve served) = by served.wishes
  where
    by : (w : Wishes) → slice_split is_space (wishes_word w) ≡ wishes_word w ∷ []
    by Header = refl
    by Requests = refl
    by Resolved = refl
one_word Distance = refl
one_word Parts = refl
one_word (Key Whole) = refl
one_word (Key Identifier) = refl
one_word Validate = refl
one_word (Exemplars marker preferences) = refl
one_word (Subtags kind preferences) = refl
one_word (SubtagName chain preferences) = by (kind_of chain)
  where
    by : (k : SubtagKind) → slice_split is_space (kind_word k) ≡ kind_word k ∷ []
    by kind.Language = refl
    by kind.Script = refl
    by kind.Region = refl
    by kind.Variant = refl

-- so it asks for that task alone
pub word_parsed : (word : List ℕ) (t : Task) → task_at word ≡ Some t → parse (slice_split is_space word)
    ≡ Some (record { longest = None; command = lines_of None t; source = Sample })
word_parsed word t is =
    let sound = named_sound task_word IsLone tasks word t lone is in
    ap (λ w. parse (slice_split is_space w)) sound.0 ∙ words_parsed (record { longest = None; command = lines_of None t; source = Sample })
    (slice_split is_space (task_word t)) (record {
      number = [];
      threshold = [];
      demotion = [];
      text = [];
      given = unsaid;
      command = lines_of None t;
      said = tt;
      threshold_said = tt;
      demotion_said = tt;
      spelled = sound.1.has;
      served = ap (option_and_then (placed_lines false None)) sound.1.usual;
      whole = one_word t ∙ (λ i. task_word t ∷ (sym sound.1.none i ++ []));
    })
