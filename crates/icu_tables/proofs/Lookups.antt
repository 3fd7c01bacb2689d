-- What a look-up finds among rows that members put in, one after another.
use Rattle.std.proofs.Common.{◌≡◌, ◌≢◌, ℕ, T, false, List, [], ◌∷◌, ◌++◌, Option, Some, None, option_map, option_and_then, IfSome, if◌then◌else◌}
use Rattle.std.proofs.Common.{refl, sym, ap, ◌∙◌, subst}
use Rattle.std.proofs.lemmas.Option.{none-some, same_Some}
use Rattle.std.specs.BTreeMap.{insert_entry, is_at}
use Rattle.std.specs.Cmp.{IsTotalOrder}
use Rattle.std.proofs.lemmas.Cmp.{tied_itself}
use Rattle.std.specs.List.{AllByRecursion}
use Rattle.std.specs.Ordering.{is_eq, match_ordering}
use Rattle.std.specs.declared.cmp.Ordering.{Ordering}
use Rattle.std.specs.declared.cmp.Ordering.TheVariants.{Less, Equal, Greater}
use Rattle.serde_json.specs.Data.{Data, null, boolean, number, string, array, object, Members, no_members, member}
use Rattle.serde_json.specs.Find.{get, get_member}
use Rattle.icu_locale_core.specs.Maps.{value_at}
use Rattle.icu_locale_core.specs.TextSet.{text_cmp}
use Rattle.icu_locale_core.specs.laws.Maps.{SetsOnly-insert_entry}
use Rattle.icu_locale_core.specs.laws.TextSets.{text_same, text_total}
use Rattle.icu_provider.specs.SortedMaps.{TiesEqualAlone}
use Rattle.icu_tables.specs.Puts.{put_all, each_put, rows_by}
use Rattle.icu_tables.specs.NamedRows.{named_row}
use Rattle.icu_tables.specs.Shape.{Shape, applied, with_row}
use Rattle.icu_tables.specs.inner.Once.{AllAbove, NamesRise, MembersRise}

not_less : Less ≡ Equal → ⊥
not_less is = subst (λ o. T (is_eq o)) (sym is) tt

not_greater : Greater ≡ Equal → ⊥
not_greater is = subst (λ o. T (is_eq o)) (sym is) tt

text_itself : (t : List ℕ) → text_cmp t t ≡ Equal
text_itself t = tied_itself text_total t

-- two parts that are there
pub record Parts {A B : Type 0} (f : Option (A → B)) (x : Option A) (r : B) : Type 0 where
  pub made : A → B
  pub given : A
  pub made_is : f ≡ Some made
  pub given_is : x ≡ Some given
  pub whole : r ≡ made given

pub parts_of : {A B : Type 0} (f : Option (A → B)) (x : Option A) (r : B) → applied f x ≡ Some r → Parts f x r
parts_of None x r is = absurd (none-some r is)
parts_of (Some f) None r is = absurd (none-some r is)
parts_of (Some f) (Some y) r is = record { made = f; given = y; made_is = refl; given_is = refl; whole = sym (same_Some (f y) r is) }

-- what f makes of a value that is there
pub map_of_some : {A B : Type 0} (f : A → B) (o : Option A) (r : B) → option_map f o ≡ Some r → (x : A) × (o ≡ Some x) × (r ≡ f x)
map_of_some f None r is = absurd (none-some r is)
map_of_some f (Some x) r is = (x, refl, sym (same_Some (f x) r is))

-- what a value says that is there
pub then_of_some : {A B : Type 0} (f : A → Option B) (o : Option A) (r : B) → option_and_then f o ≡ Some r → (x : A) × (o ≡ Some x) × (f x ≡ Some r)
then_of_some f None r is = absurd (none-some r is)
then_of_some f (Some x) r is = (x, refl, is)

module _ {K V : Type 0} (compare : K → K → Ordering) where
  -- the value of the last row at a key, or what was there
  abbrev pub last_at : K → List (K × V) → Option V → Option V
  last_at q [] old = old
  last_at q (row ∷ rows) old = last_at q rows (if is_at (compare row.0) q then Some row.1 else old)

  pub put_all-finds : IsTotalOrder compare → (rows old : List (K × V)) (q : K)
      → value_at compare (put_all compare old rows) q ≡ last_at q rows (value_at compare old q)
  put_all-finds total [] old q = refl
  put_all-finds total (row ∷ rows) old q =
      put_all-finds total rows (insert_entry compare old row.0 row.1) q
      ∙ ap (last_at q rows) (SetsOnly-insert_entry total old row.0 row.1 q)

  last_at-append : (q : K) (first more : List (K × V)) (old : Option V) → last_at q (first ++ more) old ≡ last_at q more (last_at q first old)
  last_at-append q [] more old = refl
  last_at-append q (row ∷ first) more old = last_at-append q first more (if is_at (compare row.0) q then Some row.1 else old)

  -- no row is at a key
  abbrev pub NoneAt : K → List (K × V) → Type 0
  NoneAt q rows = AllByRecursion (λ row. is_at (compare row.0) q ≡ false) rows

  last_at-none : (q : K) (rows : List (K × V)) (old : Option V) → NoneAt q rows → last_at q rows old ≡ old
  last_at-none q [] old none = refl
  last_at-none q (row ∷ rows) old none =
      ap (λ at. last_at q rows (if at then Some row.1 else old)) none.0 ∙ last_at-none q rows old none.1

-- ---- one level of names

get_member-above : (name : List ℕ) (ms : Members) → AllAbove name ms → get_member name ms ≡ None
get_member-above name no_members above = refl
get_member-above name (member other value ms) above =
    let later = get_member-above name ms above.1 in
    ap (λ o. match_ordering o (get_member name ms) (Some value) (get_member name ms)) above.0 ∙ later

-- what the member of a name decides, if it is there: the last row at the key is one of its rows
abbrev pub DecidesAt : {K V : Type 0} → (K → K → Ordering) → (List ℕ → Shape (List (K × V))) → K → List ℕ → Option Data → List (K × V) → Type 0
DecidesAt {V = V} compare says q mine None rows = (old : Option V) → last_at compare q rows old ≡ old
DecidesAt {K = K} {V = V} compare says q mine (Some value) rows =
    (own : List (K × V)) × (says mine value ≡ Some own) × ((old : Option V) → last_at compare q rows old ≡ last_at compare q own old)

module _ {K V : Type 0} (compare : K → K → Ordering) (says : List ℕ → Shape (List (K × V))) (q : K) (mine : List ℕ)
    (others : (name : List ℕ) (value : Data) (rows : List (K × V)) → name ≢ mine → says name value ≡ Some rows → NoneAt compare q rows) where
  abbrev Decides : Option Data → List (K × V) → Type 0
  Decides = DecidesAt compare says q mine

  decided : (ms : Members) (rows : List (K × V)) → MembersRise ms → each_put says ms ≡ Some rows → Decides (get_member mine ms) rows
  decided no_members rows rise is = λ old. ap (λ r. last_at compare q r old) (sym (same_Some [] rows is))
  decided (member name value ms) rows rise is =
      let all = parts_of (option_map (λ rows more. rows ++ more) (says name value)) (each_put says ms) rows is in
      let first = map_of_some (λ rows more. rows ++ more) (says name value) all.made all.made_is in
      let whole : rows ≡ first.0 ++ all.given = all.whole ∙ (λ i. first.2 i all.given) in
      let parted : (old : Option V) → last_at compare q rows old ≡ last_at compare q all.given (last_at compare q first.0 old) = λ old. ap
      (λ r. last_at compare q r old) whole ∙ last_at-append compare q first.0 all.given old in
      by first.0 all.given first.1 parted (text_cmp mine name) refl (decided ms all.given rise.2 all.given_is)
    where
      later : (found : Option Data) (first more : List (K × V)) → says name value ≡ Some first
          → ((old : Option V) → last_at compare q rows old ≡ last_at compare q more (last_at compare q first old))
          → name ≢ mine → Decides found more → Decides found rows
      later None first more is parted other rest =
          λ old. parted old ∙ ap (last_at compare q more) (last_at-none compare q first old (others name value first other is)) ∙ rest old
      later (Some v) first more is parted other rest =
          let skipped : (old : Option V) → last_at compare q first old ≡ old = λ old. last_at-none compare q first old (others name value first other is) in
          (rest.0, rest.1, λ old. parted old ∙ ap (last_at compare q more) (skipped old) ∙ rest.2 old)

      apart : (o : Ordering) → text_cmp mine name ≡ o → (o ≡ Equal → ⊥) → name ≢ mine
      apart o is not_equal same = not_equal (sym is ∙ subst (λ n. text_cmp mine n ≡ Equal) (sym same) (text_itself mine))

      by : (first more : List (K × V)) → says name value ≡ Some first
          → ((old : Option V) → last_at compare q rows old ≡ last_at compare q more (last_at compare q first old))
          → (o : Ordering) → text_cmp mine name ≡ o → Decides (get_member mine ms) more
          → Decides (match_ordering o (get_member mine ms) (Some value) (get_member mine ms)) rows
      by first more said parted Less is rest = later (get_member mine ms) first more said parted (apart Less is not_less) rest
      by first more said parted Greater is rest = later (get_member mine ms) first more said parted (apart Greater is not_greater) rest
      by first more said parted Equal is rest =
          let here : mine ≡ name = text_same mine name is in
          let none : get_member mine ms ≡ None = get_member-above mine ms (subst (λ n. AllAbove n ms) (sym here) rise.0) in
          let untouched : Decides None more = subst (λ found. Decides found more) none rest in
          let own : says mine value ≡ Some first = subst (λ n. says n value ≡ Some first) (sym here) said in
          (first, own, λ old. parted old ∙ untouched (last_at compare q first old))

  -- the same of a value that is an object
  pub decided_by : (value : Data) (rows : List (K × V)) → NamesRise value → rows_by says value ≡ Some rows → DecidesAt compare says q mine (get mine value) rows
  decided_by null rows rise is = absurd (none-some rows is)
  decided_by (boolean b) rows rise is = absurd (none-some rows is)
  decided_by (number n) rows rise is = absurd (none-some rows is)
  decided_by (string s) rows rise is = absurd (none-some rows is)
  decided_by (array items) rows rise is = absurd (none-some rows is)
  decided_by (object ms) rows rise is = decided ms rows rise is

-- ---- what holds of each row

pub each_weaker : {A : Type 0} {P Q : A → Type 0} → ((x : A) → P x → Q x) → (xs : List A) → AllByRecursion P xs → AllByRecursion Q xs
each_weaker step [] all = tt
each_weaker step (x ∷ xs) all = (step x all.0, each_weaker step xs all.1)

each_append : {A : Type 0} (P : A → Type 0) (xs ys : List A) → AllByRecursion P xs → AllByRecursion P ys → AllByRecursion P (xs ++ ys)
each_append P [] ys all more = more
each_append P (x ∷ xs) ys all more = (all.0, each_append P xs ys all.1 more)

module _ {R : Type 0} (P : R → Type 0) (says : List ℕ → Shape (List R)) (each : (name : List ℕ) (value : Data) (rows : List R)
    → says name value ≡ Some rows → AllByRecursion P rows) where
  each_of : (ms : Members) (rows : List R) → each_put says ms ≡ Some rows → AllByRecursion P rows
  each_of no_members rows is = subst (AllByRecursion P) (same_Some [] rows is) tt
  each_of (member name value ms) rows is =
      let all = parts_of (option_map (λ rows more. rows ++ more) (says name value)) (each_put says ms) rows is in
      let first = map_of_some (λ rows more. rows ++ more) (says name value) all.made all.made_is in
      let whole : rows ≡ first.0 ++ all.given = all.whole ∙ (λ i. first.2 i all.given) in
      subst (AllByRecursion P) (sym whole) (each_append P first.0 all.given (each name value first.0 first.1) (each_of ms all.given all.given_is))

  pub each_of_value : (value : Data) (rows : List R) → rows_by says value ≡ Some rows → AllByRecursion P rows
  each_of_value null rows is = absurd (none-some rows is)
  each_of_value (boolean b) rows is = absurd (none-some rows is)
  each_of_value (number n) rows is = absurd (none-some rows is)
  each_of_value (string s) rows is = absurd (none-some rows is)
  each_of_value (array items) rows is = absurd (none-some rows is)
  each_of_value (object ms) rows is = each_of ms rows is

-- the names rise in what is under a name
rise_member : (name : List ℕ) (ms : Members) → MembersRise ms → IfSome (get_member name ms) NamesRise
rise_member name no_members rise = tt
rise_member name (member other value ms) rise = by (text_cmp name other) (rise_member name ms rise.2)
  where
    by : (o : Ordering) → IfSome (get_member name ms) NamesRise → IfSome (match_ordering o (get_member name ms) (Some value) (get_member name ms)) NamesRise
    by Less later = later
    by Equal later = rise.1
    by Greater later = later

pub rise_behind : (name : List ℕ) (value : Data) → NamesRise value → IfSome (get name value) NamesRise
rise_behind name null rise = tt
rise_behind name (boolean b) rise = tt
rise_behind name (number n) rise = tt
rise_behind name (string s) rise = tt
rise_behind name (array items) rise = tt
rise_behind name (object ms) rise = rise_member name ms rise

-- ---- rows named at one level

not_tied : (o : Ordering) → (o ≡ Equal → ⊥) → is_eq o ≡ false
not_tied Less apart = refl
not_tied Equal apart = absurd (apart refl)
not_tied Greater apart = refl

module _ {K V : Type 0} (compare : K → K → Ordering) (ties : TiesEqualAlone compare) where
  -- the one row of a key is found
  pub row_found : (shape : Shape V) (value : Data) (key : K) (rows : List (K × V)) → named_row (Some key) shape value ≡ Some rows
      → last_at compare key rows None ≡ shape value
  row_found shape value key rows is =
      let held = map_of_some (λ v. with_row (Some key) v []) (shape value) rows is in
      ap (λ r. last_at compare key r None) held.2
      ∙ ap (λ tied. if is_eq tied then Some held.0 else None) ((ties key key).1 refl)
      ∙ sym held.1

  module _ (says : List ℕ → Shape (List (K × V))) (tells : List ℕ → K → Type 0)
      (each : (name : List ℕ) (value : Data) (rows : List (K × V)) → says name value ≡ Some rows → AllByRecursion (λ row. tells name row.0) rows)
      (one : (s t : List ℕ) (key : K) → tells s key → tells t key → s ≡ t) where
    none_other : (q : K) (mine : List ℕ) → tells mine q → (name : List ℕ) → name ≢ mine → (rows : List (K × V))
        → AllByRecursion (λ row. tells name row.0) rows → NoneAt compare q rows
    none_other q mine told name apart rows all =
        each_weaker (λ row tells_row. not_tied (compare row.0 q)
        (λ tied. apart (one name mine q (subst (tells name) ((ties row.0 q).0 tied) tells_row) told))) rows all

    -- the member that is named for a key decides
    pub level : (q : K) (mine : List ℕ) → tells mine q → (value : Data) (rows : List (K × V)) → NamesRise value
        → rows_by says value ≡ Some rows → DecidesAt compare says q mine (get mine value) rows
    level q mine told value rows rise is =
        decided_by compare says q mine (λ name v own apart said. none_other q mine told name apart own (each name v own said)) value rows rise is
