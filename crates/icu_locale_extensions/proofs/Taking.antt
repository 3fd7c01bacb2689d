-- What each reader takes, as a step of the definition.
use Rattle.std.specs.Prelude.{◌≡◌, ◌⊎◌, ℕ, ◌≤◌, ◌<◌, Bool, true, false, not, ◌&&◌, ◌||◌, List, [], ◌∷◌, ◌++◌, length, map, None, Some, Result, Ok, Err, IsErr, IsErrAnd, if◌then◌else◌}
use Rattle.std.proofs.Common.{refl, ap, sym, subst, ◌∙◌, arith, inl, inr, append_assoc}
use Rattle.std.proofs.lemmas.List.{nil_from_length}
use Rattle.std.specs.List.{list_any}
use Rattle.std.proofs.lemmas.Bool.{or_right}
use Rattle.icu_locale_core.specs.Readings.{after_front, after_head, front_variants}
use Rattle.icu_locale_core.specs.Subtag.{lowercase, is_subtag, is_variant, is_script, is_region}
use Rattle.icu_locale_core.specs.TextSet.{from_list, rising, text_cmp}
use Rattle.icu_locale_core.specs.laws.TextSets.{contains-from_list, from_list-rising, is_among, is_among-append, same_set, length-rising_empty}
use Rattle.icu_locale_core.specs.declared.parse_error.ParseError.{ParseError}
use Rattle.icu_locale_core.specs.declared.parse_error.ParseError.TheVariants.{Memory}
use Rattle.icu_locale_core.specs.Cuts.{front, from, other_than, optional_subtag, after_optional_subtag}
use Rattle.icu_locale_extensions.specs.Extensions.{any_piece, is_piece, is_singleton, is_t, is_tkey}
use Rattle.icu_locale_extensions.specs.Syntaxes.{is_kept}
use Rattle.icu_locale_extensions.specs.declared.identifier.LocaleIdentifier.{LocaleIdentifier}
use Rattle.icu_locale_extensions.specs.laws.Reader.{Part, first_is, belongs, begins, added, closed, marked, and_then, read_on}
use Rattle.icu_locale_extensions.specs.Built.{with_attributes, with_private_use}
use Rattle.icu_locale_extensions.specs.laws.Reader.Part.{whole, attributes, keywords, private_use, nothing}
use Rattle.icu_locale_extensions.specs.inner.Takes.{Reads, read_opened, IsEnd, is_kept_behind, IsKept}
use Rattle.icu_locale_extensions.proofs.Steps.{taken}

-- ---- pieces of a class

pub first-front : (m : List ℕ → Bool) (ps : List (List ℕ)) → any_piece (front (other_than m) ps) ≡ first_is m ps
first-front m [] = refl
first-front m (p ∷ ps) = elim (m p) as (λ b. any_piece (if not b then [] else p ∷ front (other_than m) ps) ≡ b) [ true ↦ refl | false ↦ refl ]

pub front-from : (m : List ℕ → Bool) (ps : List (List ℕ)) → ps ≡ front m ps ++ from m ps
front-from m [] = refl
front-from m (p ∷ ps) =
    let ih = front-from m ps in
    elim (m p) as (λ b. p ∷ ps ≡ (if b then [] else p ∷ front m ps) ++ (if b then p ∷ ps else from m ps)) [ true ↦ refl | false ↦ ap (λ qs. p ∷ qs) ih ]

pub from-length : (m : List ℕ → Bool) (ps : List (List ℕ)) → length (from m ps) ≤ length ps
from-length m [] = omega arith
from-length m (p ∷ ps) =
    let ih = from-length m ps in
    elim (m p) as (λ b. length (if b then p ∷ ps else from m ps) ≤ length (p ∷ ps)) [ true ↦ omega arith | false ↦ omega arith ]

-- the piece that was taken
pub next_some : (m : List ℕ → Bool) (ps : List (List ℕ)) (s : List ℕ) → optional_subtag m lowercase ps ≡ Some s
    → (p : List ℕ) × ((ps ≡ p ∷ after_optional_subtag m ps) × ((m p ≡ true) × (lowercase p ≡ s)))
next_some m [] s is = absurd (cc is)
next_some m (p ∷ ps) s is = by (m p) refl is
  where
    by : (b : Bool) → m p ≡ b → (if b then Some (lowercase p) else None) ≡ Some s
        → (q : List ℕ) × ((p ∷ ps ≡ q ∷ after_optional_subtag m (p ∷ ps)) × ((m q ≡ true) × (lowercase q ≡ s)))
    by true e some = (p, (rw e refl, (e, cc some)))
    by false e some = absurd (cc some)

pub next_none : (m : List ℕ → Bool) (ps : List (List ℕ)) → optional_subtag m lowercase ps ≡ None
    → (after_optional_subtag m ps ≡ ps) × (first_is m ps ≡ false)
next_none m [] is = (refl, refl)
next_none m (p ∷ ps) is = by (m p) refl is
  where
    by : (b : Bool) → m p ≡ b → (if b then Some (lowercase p) else None) ≡ None
        → (after_optional_subtag m (p ∷ ps) ≡ p ∷ ps) × (m p ≡ false)
    by true e none = absurd (cc none)
    by false e none = (rw e refl, e)

pub left_shorter : (m n : List ℕ → Bool) (ps : List (List ℕ)) (s : List ℕ) → optional_subtag m lowercase ps ≡ Some s
    → length (from n (after_optional_subtag m ps)) < length ps
left_shorter m n ps s is =
    let next = next_some m ps s is in
    omega (arith, from-length n (after_optional_subtag m ps), ap length next.1.0)

-- ---- parts

-- what is opened is taken
pub opened_taken : (next : Part) (x : LocaleIdentifier) (ps : List (List ℕ)) → begins next ps ≡ true → read_opened (Some next) x ps
    ≡ and_then (added next (front (other_than (belongs next)) ps) x) (λ y. read_on (closed next) [] y (from (other_than (belongs next)) ps))
opened_taken next x ps is = rw is (taken next [] x ps)

-- keys of u and of t
module _ (part : Part) (m : List ℕ → Bool) (make : List ℕ → Part)
    (opens : (x : LocaleIdentifier) (p : List ℕ) (ps : List (List ℕ))
    → read_on part [] x (p ∷ ps) ≡ read_opened (if m p then Some (make (lowercase p)) else marked x p) x ps)
    (ends : (x : LocaleIdentifier) → read_on part [] x [] ≡ Ok x) where
  pub key_next : (x : LocaleIdentifier) (ps : List (List ℕ)) (k : List ℕ) → optional_subtag m lowercase ps ≡ Some k
      → read_on part [] x ps ≡ read_opened (Some (make k)) x (after_optional_subtag m ps)
  key_next x ps k is =
      let next = next_some m ps k is in
      ap (read_on part [] x) next.1.0 ∙ opens x next.0 (after_optional_subtag m ps)
      ∙ (λ i. read_opened (if next.1.1.0 i then Some (make (next.1.1.1 i)) else marked x next.0) x (after_optional_subtag m ps))

  pub key_none : (x : LocaleIdentifier) (ps : List (List ℕ)) → first_is m ps ≡ false → read_on part [] x ps ≡ read_on whole [] x ps
  key_none x [] is = ends x
  key_none x (p ∷ ps) is = opens x p ps ∙ (λ i. read_opened (if is i then Some (make (lowercase p)) else marked x p) x ps)

-- ---- attributes

turned : (a b : Bool) → (a || b) ≡ (b || a)
turned true true = refl
turned true false = refl
turned false true = refl
turned false false = refl

-- one attribute more
pub attributes_step : (t : List ℕ) (ts : List (List ℕ)) → rising (from_list (t ∷ rising (from_list ts))) ≡ rising (from_list (ts ++ t ∷ []))
attributes_step t ts = ap rising (same_set (from_list (t ∷ rising (from_list ts))) (from_list (ts ++ t ∷ [])) (λ q.
    contains-from_list (t ∷ rising (from_list ts)) q
    ∙ is_among-append q (t ∷ []) (rising (from_list ts))
    ∙ turned (is_among q (t ∷ [])) (is_among q (rising (from_list ts)))
    ∙ ap (λ b. b || is_among q (t ∷ [])) (sym (contains-from_list (rising (from_list ts)) q)
    ∙ ap (λ s. Rattle.icu_locale_core.specs.TextSet.contains s q) (from_list-rising (from_list ts)) ∙ contains-from_list ts q)
    ∙ sym (is_among-append q ts (t ∷ [])) ∙ sym (contains-from_list (ts ++ t ∷ []) q)))

-- ---- refusals

-- the error that `?` hands on
pub handed_on : {X : Type 0} (r : Result X ParseError) (e : ParseError) (all left : Result LocaleIdentifier ParseError)
    → IsErr r → IsErrAnd r (λ f. f ≡ e) → (e ≡ Memory) ⊎ (all ≡ Err e) → Reads r all left
handed_on (Ok x) e all left err same why = absurd (cc err)
handed_on (Err f) e all left err same why = elim why [ inl memory ↦ inl (same ∙ memory) | inr refused ↦ inr (refused ∙ ap Err (sym same)) ]

-- none yet
pub rising_none : rising (from_list []) ≡ []
rising_none = nil_from_length (rising (from_list [])) length-rising_empty

pub attributes_next : (x : LocaleIdentifier) (read ps : List (List ℕ)) (p : List ℕ) (left : List (List ℕ)) → ps ≡ p ∷ left → is_subtag p ≡ true
    → read_on attributes read x ps ≡ read_on attributes (read ++ p ∷ []) x left
attributes_next x read ps p left is some = ap (read_on attributes read x) is ∙ (rw some refl)

pub attributes_none : (x : LocaleIdentifier) (read ps : List (List ℕ)) → first_is is_subtag ps ≡ false
    → read_on attributes read x ps ≡ read_on keywords [] (with_attributes x (rising (from_list (map lowercase read)))) ps
attributes_none x read [] none = refl
attributes_none x read (p ∷ ps) none = rw none refl

-- private use is the last
pub private_taken : (x : LocaleIdentifier) (ps v left : List (List ℕ)) → v ≡ map lowercase (front (other_than (is_piece 1)) ps)
    → left ≡ from (other_than (is_piece 1)) ps → any_piece (front (other_than (is_piece 1)) ps) ≡ true
    → read_opened (Some private_use) x ps ≡ read_on nothing [] (with_private_use x v) left
private_taken x ps v left read rest some =
    opened_taken private_use x ps (sym (first-front (is_piece 1) ps) ∙ some) ∙ (λ i. read_on nothing [] (with_private_use x (sym read i)) (sym rest i))

-- ---- what is left

pub end_none : (ps : List (List ℕ)) → IsEnd ps ps
end_none ps = record { own = []; parts = refl }

pub end_both : (left mid all : List (List ℕ)) → IsEnd left mid → IsEnd mid all → IsEnd left all
end_both left mid all e f = record { own = f.own ++ e.own; parts = f.parts ∙ ap (λ ps. f.own ++ ps) e.parts ∙ sym (append_assoc f.own e.own left) }

pub end_from : (m : List ℕ → Bool) (left ps : List (List ℕ)) → left ≡ from m ps → IsEnd left ps
end_from m left ps is = record { own = front m ps; parts = front-from m ps ∙ ap (λ qs. front m ps ++ qs) (sym is) }

pub end_next : (m : List ℕ → Bool) (ps left : List (List ℕ)) (s : List ℕ) → optional_subtag m lowercase ps ≡ Some s → left ≡ after_optional_subtag m ps → IsEnd left ps
end_next m ps left s is rest =
    let next = next_some m ps s is in
    record { own = next.0 ∷ []; parts = next.1.0 ∙ ap (λ qs. next.0 ∷ qs) (sym rest) }

pub end_after : (m : List ℕ → Bool) (ps : List (List ℕ)) → IsEnd (after_optional_subtag m ps) ps
end_after m [] = end_none []
end_after m (p ∷ ps) = elim (m p) as (λ b. IsEnd (if b then ps else p ∷ ps) (p ∷ ps)) [ true ↦ record { own = p ∷ []; parts = refl } | false ↦ end_none (p ∷ ps) ]

-- what follows an identifier at the front
pub end_front : (ps : List (List ℕ)) → IsEnd (after_front ps) ps
end_front [] = end_none []
end_front (p ∷ ps) =
    let script = after_optional_subtag is_script ps in
    let inner = end_both (after_front (p ∷ ps)) (after_head ps) ps (end_from (other_than is_variant) (after_front (p ∷ ps)) (after_head ps) refl)
    (end_both (after_head ps) script ps (end_after is_region script) (end_after is_script ps)) in
    record { own = p ∷ inner.own; parts = ap (λ qs. p ∷ qs) inner.parts }

pub first_next : (m : List ℕ → Bool) (ps : List (List ℕ)) (s : List ℕ) → optional_subtag m lowercase ps ≡ Some s → first_is m ps ≡ true
first_next m ps s is = let next = next_some m ps s is in ap (first_is m) next.1.0 ∙ next.1.1.0

-- ---- memory

or_left : (a b : Bool) → a ≡ true → (a || b) ≡ true
or_left true b e = refl
or_left false b e = absurd (cc e)

pub kept_variant : (ps : List (List ℕ)) → list_any is_variant ps ≡ true → IsKept ps
kept_variant [] some = absurd (cc some)
kept_variant (p ∷ ps) some = by (is_variant p) refl some (kept_variant ps)
  where
    by : (b : Bool) → is_variant p ≡ b → (b || list_any is_variant ps) ≡ true → (list_any is_variant ps ≡ true → IsKept ps) → IsKept (p ∷ ps)
    by true e some rest = or_left (is_kept_behind p) (list_any is_kept_behind ps) (or_left (is_kept p) (is_tkey p) (or_left (is_variant p) (is_singleton p && not (is_t p)) e))
    by false e some rest = or_right (is_kept_behind p) (list_any is_kept_behind ps) (rest some)

front_any : (m n : List ℕ → Bool) (ps : List (List ℕ)) → list_any n (front m ps) ≡ true → list_any n ps ≡ true
front_any m n [] some = some
front_any m n (p ∷ ps) some = by (m p) some (front_any m n ps)
  where
    on : (a b c : Bool) → (b ≡ true → c ≡ true) → (a || b) ≡ true → (a || c) ≡ true
    on true b c f e = refl
    on false b c f e = f e

    by : (b : Bool) → list_any n (if b then [] else p ∷ front m ps) ≡ true → (list_any n (front m ps) ≡ true → list_any n ps ≡ true) → list_any n (p ∷ ps) ≡ true
    by true some rest = absurd (cc some)
    by false some rest = on (n p) (list_any n (front m ps)) (list_any n ps) rest some

pub any_from : (m : List ℕ → Bool) (ps : List (List ℕ)) → list_any m (from is_singleton ps) ≡ true → list_any m ps ≡ true
any_from m [] some = some
any_from m (p ∷ ps) some = by (is_singleton p) some (any_from m ps)
  where
    by : (b : Bool) → list_any m (if b then p ∷ ps else from is_singleton ps) ≡ true
        → (list_any m (from is_singleton ps) ≡ true → list_any m ps ≡ true) → list_any m (p ∷ ps) ≡ true
    by true some rest = some
    by false some rest = or_right (m p) (list_any m ps) (rest some)

after_any : (m n : List ℕ → Bool) (ps : List (List ℕ)) → list_any n (after_optional_subtag m ps) ≡ true → list_any n ps ≡ true
after_any m n [] some = some
after_any m n (p ∷ ps) some = by (m p) some
  where
    by : (b : Bool) → list_any n (if b then ps else p ∷ ps) ≡ true → list_any n (p ∷ ps) ≡ true
    by true some = or_right (n p) (list_any n ps) some
    by false some = some

-- of an identifier at the front
pub kept_front_variant : (ps : List (List ℕ)) → list_any is_variant (front_variants ps) ≡ true → list_any is_variant ps ≡ true
kept_front_variant [] some = absurd (cc some)
kept_front_variant (p ∷ ps) some = or_right (is_variant p) (list_any is_variant ps)
    (after_any is_script is_variant ps (after_any is_region is_variant (after_optional_subtag is_script ps) (front_any (other_than is_variant) is_variant (after_head ps) some)))

pub kept_front : (ps : List (List ℕ)) → list_any is_variant (front_variants ps) ≡ true → IsKept ps
kept_front ps some = kept_variant ps (kept_front_variant ps some)

-- behind a singleton
any_behind : (m : List ℕ → Bool) (own ps : List (List ℕ)) → list_any m ps ≡ true → list_any m (own ++ ps) ≡ true
any_behind m [] ps some = some
any_behind m (q ∷ own) ps some = or_right (m q) (list_any m (own ++ ps)) (any_behind m own ps some)

from_behind : (m : List ℕ → Bool) (own ps : List (List ℕ)) → list_any m (from is_singleton ps) ≡ true → list_any m (from is_singleton (own ++ ps)) ≡ true
from_behind m [] ps some = some
from_behind m (q ∷ own) ps some = by (is_singleton q) (from_behind m own ps some)
  where
    by : (b : Bool) → list_any m (from is_singleton (own ++ ps)) ≡ true
        → list_any m (if b then q ∷ (own ++ ps) else from is_singleton (own ++ ps)) ≡ true
    by true rest = any_behind m (q ∷ own) ps (any_from m ps some)
    by false rest = rest

pub kept_behind : (p : List ℕ) (left all : List (List ℕ)) → IsEnd (p ∷ left) all → is_singleton p ≡ true → IsKept (p ∷ left) → IsKept (from is_singleton all)
kept_behind p left all end single some =
    subst (λ ps. IsKept (from is_singleton ps)) (sym end.parts) (from_behind is_kept_behind end.own (p ∷ left)
    (subst (λ b. list_any is_kept_behind (if b then p ∷ left else from is_singleton left) ≡ true) (sym single) some))

pub kept_after : (left all : List (List ℕ)) → IsEnd left all → IsKept (from is_singleton left) → IsKept (from is_singleton all)
kept_after left all end some = subst (λ ps. IsKept (from is_singleton ps)) (sym end.parts) (from_behind is_kept_behind end.own left some)

-- of a field that comes first
pub kept_field : (ps : List (List ℕ)) → first_is is_tkey ps ≡ true → IsKept ps
kept_field [] some = absurd (cc some)
kept_field (p ∷ ps) some = or_left (is_kept_behind p) (list_any is_kept_behind ps) (or_right (is_kept p) (is_tkey p) some)

-- of fields of which some were read
pub fields_kept : (all ps : List (List ℕ)) (s : List ℕ) → (ps ≡ all) ⊎ (first_is is_tkey all ≡ true) → optional_subtag is_tkey lowercase ps ≡ Some s → first_is is_tkey all ≡ true
fields_kept all ps s was is = elim was [ inl same ↦ ap (first_is is_tkey) (sym same) ∙ first_next is_tkey ps s is | inr some ↦ some ]

-- memory that `?` hands on was refused
pub handed_memory : {X Y : Type 0} (r : Result X ParseError) (q : Result Y ParseError) (f : ParseError) → IsErr r → IsErrAnd r (λ g. g ≡ f) → q ≡ Err f
    → r ≡ Err Memory → q ≡ Err Memory
handed_memory (Ok x) q f err same was is = absurd (cc is)
handed_memory (Err g) q f err same was is = let e : g ≡ Memory = cc is in was ∙ ap Err (sym same ∙ e)
