-- What using a page does to those that are held.
use Rattle.std.proofs.Common.{◌≡◌, ℕ, ◌-◌, ◌<◌, ◌≤◌, ◌⊎◌, List, [], ◌∷◌, take, inl, inr, refl, sym, ap, ◌∙◌, subst, arith}
use Rattle.std.specs.Prelude.{Option, Some, None, Result, Ok, Err, Contains, IfErr, IfSome, IsErrOf, Bool, true, false}
use Rattle.std.specs.Prelude.{nat_eq, if◌then◌else◌}
use Rattle.std.specs.Option.{option_map_or, option_or}
use Rattle.std.specs.Map.{lookup, lookup_entry, remove_entry}
use Rattle.lru.specs.LruCache.{promoted, put_entries}
use Rattle.std.proofs.lemmas.Bool.{cases_lt, eqb-true}
use Rattle.std.proofs.lemmas.Option.{same_Some}
use Rattle.std.proofs.Math.Decide.{ℕ_discrete}
use Rattle.lru.proofs.CallerLemmas.{Contains-lookup, Contains-put_entries}
use Rattle.fish_disk.specs.declared.disk.Disk.{Ghosts as Disks}
use Rattle.fish_layout.specs.Pages.{page_of}
use Rattle.fish_cold.specs.within.Answers.{IsReadingOf}
use Rattle.fish_cold.specs.Cached.{IsReadFrom, LooksAtPage, Uses, base_page, held_in}
use Rattle.fish_cold.specs.within.Cached.{Answered, Brings}
use Rattle.fish_cold.specs.Caching.{IsPageIn}
use Rattle.fish_cold.specs.declared.cold.Cold.{Cold}
use Rattle.fish_cold.specs.declared.page.Page.{Page}
use Rattle.fish_cold.specs.declared.refusal.ColdRefusal.{ColdRefusal}
use Rattle.fish_cold.specs.declared.refusal.ColdRefusal.TheVariants.{DiskFault, OutOfMemory}

-- a page that is held and one beside the list are different
module _ (c : List ℕ) (number : ℕ) (page : Page) (old new : Cold) (u : Uses number page old new) where
  -- the base's page is the same
  same_base : base_page new ≡ base_page old
  same_base = ap (λ b. page_of b.line) u.base

  -- what a page is doesn't depend on what is held
  moved : (n : ℕ) (p : Page) → IsPageIn old.base.line old.starts c n p → IsPageIn new.base.line new.starts c n p
  moved n p h = subst (λ b. IsPageIn b.line new.starts c n p) (sym u.base) (subst (λ s. IsPageIn old.base.line s c n p) (sym u.starts) h)

  -- a page in the list was there, or is the one that was used
  was : (number ≡ base_page old → ⊥) → (n : ℕ) (p : Page) → Contains new.cache.entries (n, p)
      → Contains old.cache.entries (n, p) ⊎ ((n ≡ number) × (p ≡ page))
  was apart n p among =
      elim (Contains-put_entries nat_eq old.cache number page (n, p)
      (subst (λ k. Contains k.entries (n, p)) (u.listed apart) among)) [
        | inl before ↦ inl before
        | inr put ↦ elim put.1 [
          | inl same ↦ inr (same, put.0)
          | inr other ↦ inr (sym (eqb-true number n other.2), put.0)
        ]
      ]

  -- what is held stays what is read
  uses_read_by : Dec (number ≡ base_page old) → number ≤ base_page old → IsPageIn old.base.line old.starts c number page
      → IsReadFrom c old → IsReadFrom c new
  uses_read_by (yes last) low is read =
      let beside = u.beside last in
      record {
        cached = λ n p among. moved n p (read.cached n p (subst (λ k. Contains k.entries (n, p)) beside.0 among));
        older = λ n p among. subst (λ b. n < b) (sym same_base) (read.older n p (subst (λ k. Contains k.entries (n, p)) beside.0 among));
        last = λ p there.
            let one : page ≡ p = same_Some page p (sym beside.1 ∙ there) in
            subst (λ b. IsPageIn new.base.line new.starts c b p) (last ∙ sym same_base)
            (moved number p (subst (IsPageIn old.base.line old.starts c number) one is));
      }
  uses_read_by (no apart) low is read =
      let others = u.others apart in
      record {
        cached = λ n p among. elim (was apart n p among) [
          | inl before ↦ moved n p (read.cached n p before)
          | inr put ↦ moved n p (subst (λ m. IsPageIn old.base.line old.starts c m p) (sym put.0)
              (subst (IsPageIn old.base.line old.starts c number) (sym put.1) is))
        ];
        older = λ n p among. subst (λ b. n < b) (sym same_base) (elim (was apart n p among) [
          | inl before ↦ read.older n p before
          | inr put ↦ lower apart n put.0 low
        ]);
        last = λ p there. subst (λ b. IsPageIn new.base.line new.starts c b p) (sym same_base)
            (moved (base_page old) p (read.last p (sym others ∙ there)));
      } where
        lower : (number ≡ base_page old → ⊥) → (n : ℕ) → n ≡ number → number ≤ base_page old → n < base_page old
        lower apart n same low = elim (cases_lt n (base_page old)) [
          | inl less ↦ less
          | inr more ↦ absurd (apart (omega arith))
        ]

  pub uses_read : number ≤ base_page old → IsPageIn old.base.line old.starts c number page → IsReadFrom c old → IsReadFrom c new
  uses_read = uses_read_by (ℕ_discrete number (base_page old))

-- a page that is held is what is read
held_read_by : (c : List ℕ) (number : ℕ) (cold : Cold) (page : Page) (t : Bool) → nat_eq number (base_page cold) ≡ t → IsReadFrom c cold
    → (if t then cold.tail else lookup (nat_eq number) cold.cache.entries) ≡ Some page → IsPageIn cold.base.line cold.starts c number page
held_read_by c number cold page true is read there =
    subst (λ n. IsPageIn cold.base.line cold.starts c n page) (sym (eqb-true number (base_page cold) is)) (read.last page there)
held_read_by c number cold page false is read there =
    let found = Contains-lookup (nat_eq number) cold.cache.entries page there in
    subst (λ n. IsPageIn cold.base.line cold.starts c n page) (sym (eqb-true number found.0 found.2)) (read.cached found.0 page found.1)

pub held_read : (c : List ℕ) (number : ℕ) (cold : Cold) (page : Page) → IsReadFrom c cold → held_in cold number ≡ Some page
    → IsPageIn cold.base.line cold.starts c number page
held_read c number cold page read there = held_read_by c number cold page (nat_eq number (base_page cold)) refl read there

-- the page that was brought or is held is what is read
pub used_read : (c : List ℕ) (number : ℕ) (cold : Cold) (fresh : Option Page) (page : Page)
    → IfSome fresh (λ p. IsPageIn cold.base.line cold.starts c number p) → IsReadFrom c cold
    → Some page ≡ option_or fresh (held_in cold number) → IsPageIn cold.base.line cold.starts c number page
used_read c number cold (Some p) page brought read is =
    subst (IsPageIn cold.base.line cold.starts c number) (sym (same_Some page p is)) brought
used_read c number cold None page brought read is = held_read c number cold page read (sym is)

-- the value that a look-up finds is that of the entry that it finds
found_entry : {K V : Type 0} (test : K → Bool) (es : List (K × V)) (v : V) → lookup test es ≡ Some v
    → (e : K × V) × (lookup_entry test es ≡ Some e) × (e.1 ≡ v)
found_entry {K = K} {V = V} test [] v h = absurd cc
found_entry {K = K} {V = V} test (f ∷ es) v h = (elim (test f.0) as
    (λ y. test f.0 ≡ y → (e : K × V) × (lookup_entry test (f ∷ es) ≡ Some e) × (e.1 ≡ v)) [
      | true ↦ λ t. (f, (let shown : lookup_entry test (f ∷ es) ≡ Some f = rw t in shown), same_Some f.1 v (rw t at h))
      | false ↦ λ t. (
          let on = found_entry test es v (rw t at h) in
          (on.0, (let shown : lookup_entry test (f ∷ es) ≡ Some on.0 = rw t on.1 in shown), on.2))
    ]) refl

-- a page that is in the list is at its front as if it had been put there
put_front : (es : List (ℕ × Page)) (rest : List (ℕ × Page)) (o : Option (ℕ × Page)) (e : ℕ × Page) (page : Page) (back : List (ℕ × Page))
    → o ≡ Some e → e.1 ≡ page
    → option_map_or (λ f. f ∷ rest) o es ≡ option_map_or (λ f. (f.0, page) ∷ rest) o back
put_front es rest None e page back h same = absurd (cc h)
put_front es rest (Some f) e page back h same =
    let one : f ≡ e = same_Some f e h in
    ap (λ v. (f.0, v) ∷ rest) (ap (λ (x : ℕ × Page). x.1) one ∙ same)

listed_by : (cold : Cold) (number : ℕ) (page : Page) (t : Bool) → nat_eq number (base_page cold) ≡ t → (number ≡ base_page cold → ⊥)
    → (if t then cold.tail else lookup (nat_eq number) cold.cache.entries) ≡ Some page
    → promoted (nat_eq number) cold.cache.entries ≡ put_entries nat_eq cold.cache number page
listed_by cold number page true is apart there = absurd (apart (eqb-true number (base_page cold) is))
listed_by cold number page false is apart there =
    let found = found_entry (nat_eq number) cold.cache.entries page there in
    put_front cold.cache.entries (remove_entry (nat_eq number) cold.cache.entries) (lookup_entry (nat_eq number) cold.cache.entries)
    found.0 page ((number, page) ∷ take (cold.cache.cap - 1) cold.cache.entries) found.1 found.2

pub listed_put : (cold : Cold) (number : ℕ) (page : Page) → (number ≡ base_page cold → ⊥) → held_in cold number ≡ Some page
    → promoted (nat_eq number) cold.cache.entries ≡ put_entries nat_eq cold.cache number page
listed_put cold number page apart there = listed_by cold number page (nat_eq number (base_page cold)) refl apart there

-- what is held stays what it was where nothing changed
kept_same : (old new : Cold) (o : Option (List ℕ)) → new ≡ old → IfSome o (λ c. IsReadFrom c old → IsReadFrom c new)
kept_same old new None same = tt
kept_same old new (Some c) same = λ read. subst (IsReadFrom c) (sym same) read

-- the page that was brought, where the content of the disk is known
told_page : (c : List ℕ) (number : ℕ) (old : Cold) (fresh : Option Page)
    → IfSome fresh (λ p. IfSome (Some c) (λ d. IsPageIn old.base.line old.starts d number p))
    → IfSome fresh (λ p. IsPageIn old.base.line old.starts c number p)
told_page c number old None h = tt
told_page c number old (Some p) h = h

-- and where a page was used that is what is read
kept_used : (number : ℕ) (old new : Cold) (o : Option (List ℕ)) (fresh : Option Page) (page : Page) → number ≤ base_page old
    → IfSome fresh (λ p. IfSome o (λ c. IsPageIn old.base.line old.starts c number p))
    → Some page ≡ option_or fresh (held_in old number) → Uses number page old new → IfSome o (λ c. IsReadFrom c old → IsReadFrom c new)
kept_used number old new None fresh page low brought is used = tt
kept_used number old new (Some c) fresh page low brought is used =
    λ read. uses_read c number page old new used low
    (used_read c number old fresh page (told_page c number old fresh brought) read is) read

-- which refusal a result is
pub err_is : {T : Type 0} (e : ColdRefusal) → IsErrOf {T = T} {E = ColdRefusal} (Err e) DiskFault → e ≡ DiskFault
err_is {T} e h = cc

no_err : {T : Type 0} (x : T) → IsErrOf {T = T} {E = ColdRefusal} (Ok x) DiskFault → ⊥
no_err {T} x h = cc

-- nothing is brought
brought_none : (fresh : Option Page) → ◌≡◌ {A = Result (Option Page) ColdRefusal} (Ok fresh) (Ok None) → fresh ≡ None
brought_none fresh h = cc h

-- and then the page that is used is the one that is held
one_held : (held : Option Page) (fresh : Option Page) (page p : Page) → fresh ≡ None → Some page ≡ option_or fresh held
    → held ≡ Some p → page ≡ p
one_held held fresh page p none is there =
    same_Some page p (is ∙ ap (λ o. option_or o held) none ∙ there)

module _
    {D T : Type 0} (disks : Disks D)
    (number : ℕ)
    (old new : Cold)
    (disk next : D) where
  -- no fault comes of words that were read
  no_fault : (n : ℕ) (read : Result T ColdRefusal) (e : ColdRefusal) → IfErr read (IsReadingOf n) → (read ≡ Err e) ⊎ (e ≡ OutOfMemory)
      → e ≡ DiskFault → ⊥
  no_fault n read e whole (inl same) is =
      subst (λ r. IfErr r (IsReadingOf n)) (same ∙ ap Err is) whole
  no_fault n read e whole (inr same) is = absurd (cc (sym same ∙ is))

  -- a page that was brought or is held was used
  pub looks_answered : (fresh : Option Page) (n : ℕ) (read result : Result T ColdRefusal) (page : Page)
      → Brings disks number old disk next (Ok fresh) → number ≤ base_page old
      → IfErr read (IsReadingOf n) → Some page ≡ option_or fresh (held_in old number) → Answered number fresh old new read result
      → LooksAtPage disks number old new disk next result
  looks_answered fresh n read (Ok x) page b low whole is a = record {
    used = (
      page,
      λ p there. one_held (held_in old number) fresh page p (brought_none fresh (b.untouched (p, there)).1) is there,
      a.used page is,
    );
    refused = tt;
    cached = λ held. ((b.untouched held).0, no_err x);
    kept = kept_used number old new (disks.content next) fresh page low b.fresh is (a.used page is);
    outside = b.outside;
    cause = record { later = b.cause.later; failed = λ h. absurd (no_err x h) };
  }
  looks_answered fresh n read (Err e) page b low whole is a = record {
    used = tt;
    refused = a.refused;
    cached = λ held. ((b.untouched held).0, λ h. no_fault n read e whole a.err (err_is e h));
    kept = kept_same old new (disks.content next) a.refused;
    outside = b.outside;
    cause = record { later = b.cause.later; failed = λ h. absurd (no_fault n read e whole a.err (err_is e h)) };
  }

-- what holds of what was read, and where memory runs out, holds of the answer
pub answered_as : {T : Type 0} (number : ℕ) (fresh : Option Page) (old new : Cold) (read result : Result T ColdRefusal)
    (P : Result T ColdRefusal → Type 0) → Answered number fresh old new read result → P read → P (Err OutOfMemory) → P result
answered_as number fresh old new read (Ok x) P a is want = subst P a.same is
answered_as number fresh old new read (Err e) P a is want = elim a.err [
  | inl same ↦ subst P same is
  | inr memory ↦ subst (λ r. P (Err r)) (sym memory) want
]

-- what the page that was used says, where the content of the disk is known
pub if_some_used : (o : Option (List ℕ)) (number : ℕ) (old : Cold) (fresh : Option Page) (page : Page) (P : List ℕ → Type 0)
    → IfSome fresh (λ p. IfSome o (λ c. IsPageIn old.base.line old.starts c number p))
    → Some page ≡ option_or fresh (held_in old number)
    → ((c : List ℕ) → (IsReadFrom c old → IsPageIn old.base.line old.starts c number page) → P c) → IfSome o P
if_some_used None number old fresh page P brought is h = tt
if_some_used (Some c) number old fresh page P brought is h =
    h c (λ read. used_read c number old fresh page (told_page c number old fresh brought) read is)
