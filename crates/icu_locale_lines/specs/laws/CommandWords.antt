-- What a word names has that word, and words that are parsed as a command are those of it.
use Rattle.std.specs.Prelude.{◌≡◌, ℕ, Bool, true, false, List, [], ◌∷◌, ◌++◌, codes, Option, None, Some, is_some, if◌then◌else◌}
use Rattle.std.proofs.Common.{refl, ap, sym, subst, ◌∙◌}
use Rattle.std.specs.List.{AllByRecursion}
use Rattle.std.specs.Option.{option_and_then, option_map}
use Rattle.std.specs.Str.{bytes_eq}
use Rattle.std.proofs.lemmas.Option.{none-some, same_Some}
use Rattle.std.proofs.lemmas.Slice.Eq.{bytes_eq-Decides}
use Rattle.icu_locale_extensions.specs.declared.syntax.Syntax.{Syntax}
use Rattle.icu_locale_names.specs.LanguageChains.{chain_word}
use Rattle.icu_locale_names.specs.declared.options.DisplayNamesPreferences.{DisplayNamesPreferences}
use Rattle.icu_locale_lines.specs.CommandWords.{chain_at, chains, exemplar_sets, exemplars_at, exemplars_word, kind_at, kind_of, kind_word, kinds, named, subtags_word, subtags_at}
use Rattle.icu_locale_lines.specs.Grammar.{asked_for, has_arguments, lines_of, named_task, parse_behind, parse_command, parse_lines, listed_task}
use Rattle.icu_locale_lines.specs.CommandWords.{preferences_at, region_chain_word, region_chains, script_chain_word, script_chains, subtag_chain_at, subtag_chain_word, syntax_at, syntax_word, syntaxes, task_at, task_word, tasks}
use Rattle.icu_locale_lines.specs.Grammar.{parse_named, parse_source, parse_supplement, parse_word, subtag_task, task_by}
use Rattle.icu_locale_lines.specs.declared.work.subtag.SubtagChain.{SubtagChain}
use Rattle.icu_locale_lines.specs.declared.work.subtag.SubtagChain.TheVariants as subtag
use Rattle.icu_locale_lines.specs.declared.work.subtag.SubtagKind.{SubtagKind}
use Rattle.icu_locale_lines.specs.declared.work.subtag.SubtagKind.TheVariants as kind
use Rattle.icu_locale_lines.specs.declared.asked.Asked.{Asked}
use Rattle.icu_locale_lines.specs.declared.asked.Source.{Source}
use Rattle.icu_locale_lines.specs.declared.asked.Source.TheVariants.{Sample, Json, JsonAndSupplement}
use Rattle.icu_locale_lines.specs.declared.command.Command.{Command}
use Rattle.icu_locale_lines.specs.declared.command.Command.TheVariants.{Settled}
use Rattle.icu_locale_lines.specs.declared.command.Task.{Task}
use Rattle.icu_locale_lines.specs.declared.command.Task.TheVariants.{Name, SubtagName, Exemplars, Subtags}
use Rattle.icu_locale_lines.specs.declared.given.Given.{Given}
use Rattle.icu_locale_lines.specs.laws.Forms.{CommandHas, HasPreferences, arguments, command_words, source_words, syntax_words}

module _ {X : Type 0} (word_of : X → List ℕ) where
  named_first : (y : X) (ys : List X) (w : List ℕ) → bytes_eq w (word_of y) ≡ true → named word_of (y ∷ ys) w ≡ Some y
  named_first y ys w is = rw is refl

  named_later : (y : X) (ys : List X) (w : List ℕ) → bytes_eq w (word_of y) ≡ false → named word_of (y ∷ ys) w ≡ named word_of ys w
  named_later y ys w is = rw is refl

  -- what a word names has that word, and what holds of all
  pub named_sound : (P : X → Type 0) (xs : List X) (w : List ℕ) (x : X) → AllByRecursion P xs → named word_of xs w ≡ Some x
      → (w ≡ word_of x) × P x
  named_sound P [] w x all e = absurd (none-some x e)
  named_sound P (y ∷ ys) w x all e = by (named_sound P ys w x all.1) (bytes_eq w (word_of y)) refl
    where
      by : (named word_of ys w ≡ Some x → (w ≡ word_of x) × P x) → (b : Bool) → bytes_eq w (word_of y) ≡ b → (w ≡ word_of x) × P x
      by rest true is =
          let same = same_Some y x (sym (named_first y ys w is) ∙ e) in
          ((bytes_eq-Decides w (word_of y)).0 is ∙ ap word_of same, subst P same all.0)
      by rest false is = rest (sym (named_later y ys w is) ∙ e)

anything : {X : Type 0} (xs : List X) → AllByRecursion (λ x. Unit {0}) xs
anything [] = tt
anything (x ∷ xs) = (tt, anything xs)

supplement_sound : (ws : List (List ℕ)) (s : Source) → parse_supplement ws ≡ Some s → codes "json" ∷ ws ≡ source_words s
supplement_sound [] s e = ap source_words (same_Some Json s e)
supplement_sound (w ∷ []) s e = by (bytes_eq w (codes "supplement")) refl
  where
    by : (b : Bool) → bytes_eq w (codes "supplement") ≡ b → codes "json" ∷ w ∷ [] ≡ source_words s
    by true is = ap (λ v. codes "json" ∷ v ∷ []) ((bytes_eq-Decides w (codes "supplement")).0 is)
        ∙ ap source_words (same_Some JsonAndSupplement s (sym (ap (λ b. if b then Some JsonAndSupplement else None) is) ∙ e))
    by false is = absurd (none-some s (sym (ap (λ b. if b then Some JsonAndSupplement else None) is) ∙ e))
supplement_sound (w ∷ v ∷ ws) s e = absurd (none-some s e)

source_sound : (ws : List (List ℕ)) (s : Source) → parse_source ws ≡ Some s → ws ≡ source_words s
source_sound [] s e = ap source_words (same_Some Sample s e)
source_sound (w ∷ ws) s e = by (bytes_eq w (codes "json")) refl
  where
    by : (b : Bool) → bytes_eq w (codes "json") ≡ b → w ∷ ws ≡ source_words s
    by true is = ap (λ v. v ∷ ws) ((bytes_eq-Decides w (codes "json")).0 is)
        ∙ supplement_sound ws s (sym (ap (λ b. if b then parse_supplement ws else None) is) ∙ e)
    by false is = absurd (none-some s (sym (ap (λ b. if b then parse_supplement ws else None) is) ∙ e))

asked_sound : (longest : Option ℕ) (c : Option Command) (s : Option Source) (a : Asked) → asked_for longest c s ≡ Some a
    → (a.longest ≡ longest) × (c ≡ Some a.command) × (s ≡ Some a.source)
asked_sound longest None s a e = absurd (none-some a e)
asked_sound longest (Some c) None a e = absurd (none-some a e)
asked_sound longest (Some c) (Some s) a e =
    let same = same_Some (record { longest = longest; command = c; source = s }) a e in (
      sym (ap (λ (x : Asked). x.longest) same),
      ap (λ (x : Asked). Some x.command) same,
      ap (λ (x : Asked). Some x.source) same,
    )

-- words are those of a command, after a syntax, and others
abbrev Told : Option Syntax → Command → List (List ℕ) → List (List ℕ) → Type 0
Told syntax c ws rest = (text : List ℕ) × CommandHas c text × (syntax_words syntax ++ ws ≡ command_words c text rest)

-- nothing is said of how readers are served
abbrev pub unsaid : Given
unsaid = record { threshold = None; demotion = None; favor_script = false; or_first = false; places = false }

-- a task that a word names has no arguments, and is as it is where nothing is said
pub record IsLone (t : Task) : Type 0 where
  pub has : HasPreferences t []
  pub none : arguments t [] ≡ []
  pub usual : task_by unsaid t ≡ Some t

pub lone : AllByRecursion IsLone tasks
lone = (
  record { has = tt; none = refl; usual = refl },
  (
    record { has = tt; none = refl; usual = refl },
    (
      record { has = tt; none = refl; usual = refl },
      (
        record { has = tt; none = refl; usual = refl },
        (
          record { has = tt; none = refl; usual = refl },
          (
            record { has = tt; none = refl; usual = refl },
            (
              record { has = tt; none = refl; usual = refl },
              (
                record { has = tt; none = refl; usual = refl },
                (
                  record { has = tt; none = refl; usual = refl },
                  (
                    record { has = tt; none = refl; usual = refl },
                    (
                      record { has = tt; none = refl; usual = refl },
                      (
                        record { has = tt; none = refl; usual = refl },
                        (
                          record { has = tt; none = refl; usual = refl },
                          (
                            record { has = tt; none = refl; usual = refl },
                            (
                              record { has = tt; none = refl; usual = refl },
                              tt,
                            ),
                          ),
                        ),
                      ),
                    ),
                  ),
                ),
              ),
            ),
          ),
        ),
      ),
    ),
  ),
)

word_told : (syntax : Option Syntax) (w : List ℕ) (c : Command) (ws : List (List ℕ)) → parse_word syntax w ≡ Some c → Told syntax c (w ∷ ws) ws
word_told syntax w c ws e = by (bytes_eq w (codes "settled")) refl
  where
    settled : (o : Option Syntax) → (if is_some o then None else Some Settled) ≡ Some c → w ≡ codes "settled" → Told o c (w ∷ ws) ws
    settled None f is = subst (λ (k : Command). Told None k (w ∷ ws) ws) (same_Some Settled c f) ([], tt, ap (λ v. v ∷ ws) is)
    settled (Some s) f is = absurd (none-some c f)

    task : (o : Option Task) → task_at w ≡ o → option_map (lines_of syntax) o ≡ Some c → Told syntax c (w ∷ ws) ws
    task None is f = absurd (none-some c f)
    task (Some t) is f =
        let sound = named_sound task_word IsLone tasks w t lone is in
        subst (λ (k : Command). Told syntax k (w ∷ ws) ws) (same_Some (lines_of syntax t) c f) (
          [],
          sound.1.has,
          λ i. syntax_words syntax ++ (sound.0 i ∷ sym sound.1.none i ++ ws),
        )

    by : (b : Bool) → bytes_eq w (codes "settled") ≡ b → Told syntax c (w ∷ ws) ws
    by true is = settled syntax (sym (ap (λ b. if b then (if is_some syntax then None else Some Settled) else option_map (lines_of syntax) (task_at w)) is) ∙ e)
        ((bytes_eq-Decides w (codes "settled")).0 is)
    by false is = task (task_at w) refl (sym (ap (λ b. if b then (if is_some syntax then None else Some Settled) else option_map (lines_of syntax) (task_at w)) is) ∙ e)

-- a task that has a choice and a locale behind its word
record IsArgued (w choice : List ℕ) (p : DisplayNamesPreferences) (t : Task) : Type 0 where
  word : task_word t ≡ w
  has : (text : List ℕ) → preferences_at text ≡ Some p → HasPreferences t text
  said : (text : List ℕ) → arguments t text ≡ choice ∷ text ∷ []

map_told : {X Y : Type 0} (f : X → Y) (o : Option X) (y : Y) → option_map f o ≡ Some y → (x : X) × (o ≡ Some x) × (f x ≡ y)
map_told f None y e = absurd (none-some y e)
map_told f (Some x) y e = (x, refl, same_Some (f x) y e)

-- what a word names has that word
word_named : {X : Type 0} (word_of : X → List ℕ) (xs : List X) (w : List ℕ) (x : X) → named word_of xs w ≡ Some x → word_of x ≡ w
word_named word_of xs w x is = sym (named_sound word_of (λ x. Unit {0}) xs w x (anything xs) is).0

kind_argued : (k : SubtagKind) (choice : List ℕ) (p : DisplayNamesPreferences) (c : SubtagChain) → subtag_chain_at k choice ≡ Some c
    → IsArgued (kind_word k) choice p (SubtagName c p)
kind_argued k choice p c is =
    let both = by k is in record {
      word = ap kind_word both.0;
      has = λ text has. has;
      said = λ text. ap (λ v. v ∷ text ∷ []) both.1;
    }
  where
    heavy : (b : Bool) → bytes_eq choice (codes "heavy") ≡ b → (if b then Some subtag.Variant else None) ≡ Some c
        → (kind_of c ≡ kind.Variant) × (subtag_chain_word c ≡ choice)
    heavy true same e = subst (λ d. (kind_of d ≡ kind.Variant) × (subtag_chain_word d ≡ choice)) (same_Some subtag.Variant c e)
        (refl, sym ((bytes_eq-Decides choice (codes "heavy")).0 same))
    heavy false same e = absurd (none-some c e)

    by : (k : SubtagKind) → subtag_chain_at k choice ≡ Some c → (kind_of c ≡ k) × (subtag_chain_word c ≡ choice)
    by kind.Language e = let (d, found, made) = map_told subtag.Language (chain_at choice) c e in
        subst (λ d. (kind_of d ≡ kind.Language) × (subtag_chain_word d ≡ choice)) made (refl, word_named chain_word chains choice d found)
    by kind.Script e = let (d, found, made) = map_told subtag.Script (named script_chain_word script_chains choice) c e in
        subst (λ d. (kind_of d ≡ kind.Script) × (subtag_chain_word d ≡ choice)) made (refl, word_named script_chain_word script_chains choice d found)
    by kind.Region e = let (d, found, made) = map_told subtag.Region (named region_chain_word region_chains choice) c e in
        subst (λ d. (kind_of d ≡ kind.Region) × (subtag_chain_word d ≡ choice)) made (refl, word_named region_chain_word region_chains choice d found)
    by kind.Variant e = heavy (bytes_eq choice (codes "heavy")) refl e

argued : (w choice : List ℕ) (p : DisplayNamesPreferences) (t : Task) → named_task w choice p ≡ Some t → IsArgued w choice p t
argued w choice p t e = by (bytes_eq w (codes "name")) refl
  where
    kind : (o : Option SubtagKind) → kind_at w ≡ o → option_and_then (λ k. option_map (λ c. SubtagName c p) (subtag_chain_at k choice)) o ≡ Some t
        → IsArgued w choice p t
    kind None is f = absurd (none-some t f)
    kind (Some k) is f = let (c, found, made) = map_told (λ c. SubtagName c p) (subtag_chain_at k choice) t f in
        subst (IsArgued w choice p) made (subst (λ v. IsArgued v choice p (SubtagName c p)) (word_named kind_word kinds w k is) (kind_argued k choice p c found))

    list : (b : Bool) → bytes_eq w (codes "list") ≡ b
        → (if b then option_map (λ k. Subtags k p) (subtags_at choice) else subtag_task w choice p) ≡ Some t → IsArgued w choice p t
    list true is f = let (k, found, made) = map_told (λ k. Subtags k p) (subtags_at choice) t f in
        subst (IsArgued w choice p) made (record {
          word = sym ((bytes_eq-Decides w (codes "list")).0 is);
          has = λ text has. has;
          said = λ text. ap (λ v. v ∷ text ∷ []) (word_named subtags_word kinds choice k found);
        })
    list false is f = kind (kind_at w) refl f

    other : (b : Bool) → bytes_eq w (codes "exemplars") ≡ b
        → (if b then option_map (λ m. Exemplars m p) (exemplars_at choice) else listed_task w choice p) ≡ Some t → IsArgued w choice p t
    other true is f = let (m, found, made) = map_told (λ m. Exemplars m p) (exemplars_at choice) t f in
        subst (IsArgued w choice p) made (record {
          word = sym ((bytes_eq-Decides w (codes "exemplars")).0 is);
          has = λ text has. has;
          said = λ text. ap (λ v. v ∷ text ∷ []) (word_named exemplars_word exemplar_sets choice m found);
        })
    other false is f = list (bytes_eq w (codes "list")) refl f

    tested : (b : Bool) → bytes_eq w (codes "name") ≡ b → named_task w choice p ≡ (if b then option_map (λ c. Name c p) (chain_at choice)
        else (if bytes_eq w (codes "exemplars") then option_map (λ m. Exemplars m p) (exemplars_at choice) else listed_task w choice p))
    tested b is = ap (λ b. if b then option_map (λ c. Name c p) (chain_at choice)
        else (if bytes_eq w (codes "exemplars") then option_map (λ m. Exemplars m p) (exemplars_at choice) else listed_task w choice p)) is

    by : (b : Bool) → bytes_eq w (codes "name") ≡ b → IsArgued w choice p t
    by true is = let (c, found, made) = map_told (λ c. Name c p) (chain_at choice) t (sym (tested true is) ∙ e) in
        subst (IsArgued w choice p) made (record {
          word = sym ((bytes_eq-Decides w (codes "name")).0 is);
          has = λ text has. has;
          said = λ text. ap (λ v. v ∷ text ∷ []) (word_named chain_word chains choice c found);
        })
    by false is = other (bytes_eq w (codes "exemplars")) refl (sym (tested false is) ∙ e)

named_told : (syntax : Option Syntax) (w choice text : List ℕ) (c : Command) (ws : List (List ℕ))
    → option_map (lines_of syntax) (option_and_then (named_task w choice) (preferences_at text)) ≡ Some c
    → Told syntax c (w ∷ choice ∷ text ∷ ws) ws
named_told syntax w choice text c ws e = by (preferences_at text) refl e
  where
    by : (q : Option DisplayNamesPreferences) → preferences_at text ≡ q
        → option_map (lines_of syntax) (option_and_then (named_task w choice) q) ≡ Some c → Told syntax c (w ∷ choice ∷ text ∷ ws) ws
    by None has f = absurd (none-some c f)
    by (Some p) has f =
        let (t, found, made) = map_told (lines_of syntax) (named_task w choice p) c f in
        let told = argued w choice p t found in
        subst (λ (d : Command). Told syntax d (w ∷ choice ∷ text ∷ ws) ws) made (
          text,
          told.has text has,
          λ i. syntax_words syntax ++ (sym told.word i ∷ sym (told.said text) i ++ ws),
        )

-- words are those of a command, after a syntax, and of where its tables come from
abbrev pub AreTold : Option ℕ → Option Syntax → List (List ℕ) → Asked → Type 0
AreTold longest syntax ws a = (a.longest ≡ longest) × Told syntax a.command ws (source_words a.source)

both_told : (longest : Option ℕ) (syntax : Option Syntax) (c : Option Command) (ws rest : List (List ℕ)) (a : Asked)
    → ((k : Command) → c ≡ Some k → Told syntax k ws rest) → asked_for longest c (parse_source rest) ≡ Some a → AreTold longest syntax ws a
both_told longest syntax c ws rest a told e =
    let parts = asked_sound longest c (parse_source rest) a e in
    (parts.0, subst (λ r. Told syntax a.command ws r) (source_sound rest a.source parts.2) (told a.command parts.1))

command_told : (longest : Option ℕ) (syntax : Option Syntax) (w : List ℕ) (ws : List (List ℕ)) (a : Asked)
    → parse_command longest syntax w ws ≡ Some a → AreTold longest syntax (w ∷ ws) a
command_told longest syntax w ws a e = by (has_arguments w) refl
  where
    named_with : (vs : List (List ℕ)) → parse_named longest syntax w vs ≡ Some a → AreTold longest syntax (w ∷ vs) a
    named_with [] f = absurd (none-some a f)
    named_with (choice ∷ []) f = absurd (none-some a f)
    named_with (choice ∷ text ∷ vs) f = both_told longest syntax _ (w ∷ choice ∷ text ∷ vs) vs a (λ k. named_told syntax w choice text k vs) f

    by : (b : Bool) → has_arguments w ≡ b → AreTold longest syntax (w ∷ ws) a
    by true is =
        named_with ws (sym (ap (λ b. if b then parse_named longest syntax w ws else asked_for longest (parse_word syntax w) (parse_source ws)) is) ∙ e)
    by false is = both_told longest syntax (parse_word syntax w) (w ∷ ws) ws a (λ k. word_told syntax w k ws)
        (sym (ap (λ b. if b then parse_named longest syntax w ws else asked_for longest (parse_word syntax w) (parse_source ws)) is) ∙ e)

pub lines_told : (longest : Option ℕ) (ws : List (List ℕ)) (a : Asked) → parse_lines longest ws ≡ Some a → AreTold longest None ws a
lines_told longest [] a e = absurd (none-some a e)
lines_told longest (w ∷ ws) a e = by (syntax_at w) refl e
  where
    after : (s : Syntax) (vs : List (List ℕ)) → w ≡ syntax_word s → parse_behind longest (Some s) w vs ≡ Some a → AreTold longest None (w ∷ vs) a
    after s [] is f = absurd (none-some a f)
    after s (v ∷ vs) is f =
        let told = command_told longest (Some s) v vs a f in
        (told.0, (told.1.0, told.1.1, ap (λ u. u ∷ v ∷ vs) is ∙ told.1.2))

    by : (o : Option Syntax) → syntax_at w ≡ o → parse_behind longest o w ws ≡ Some a → AreTold longest None (w ∷ ws) a
    by None is f = command_told longest None w ws a f
    by (Some s) is f = after s ws (named_sound syntax_word (λ s. Unit {0}) syntaxes w s (anything syntaxes) is).0 f
