-- What a lane is still to be given, one step after the other, and at the end.
use Rattle.std.proofs.Common.{◌≡◌, ℕ, List, [], ◌∷◌, ◌++◌, append-nil, append_assoc, take, refl, sym, ap, ◌∙◌, subst}
use Rattle.std.proofs.Common.{Bool, true, false, Option, Some, None, ◌+◌, ◌<◌, length, length-append, arith}
use Rattle.std.proofs.lemmas.List.{length-take, take_all}
use Rattle.std.proofs.lemmas.Option.{same_Some}
use Rattle.std.specs.Prelude.{IfSome, IsSome}
use Rattle.fish_feed.proofs.Long.{read_all, too_long}
use Rattle.fish_feed.proofs.Parts.{after_push, parts_rest, parts_then}
use Rattle.fish_feed.proofs.Told.{told_later}
use Rattle.fish_feed.specs.Parts.{AreParts, longest_csv_read}
use Rattle.fish_feed.specs.OpenFiles.{IsFilePart, IsRestOf, IsStuck}
use Rattle.fish_feed.specs.within.OpenFiles.{ReadsOnFile}
use Rattle.fish_feed.specs.Queues.{GoesOnFeed, HasQueue, IsDue, IsOpenOf}
use Rattle.fish_feed.specs.Works.{AreStatementsDone, AreFirstOf, IsDone, IsWorkOf}
use Rattle.fish_script.specs.Laws.{Pairs}
use Rattle.fish_feed.specs.declared.part.OpenFile.{OpenFile}
use Rattle.fish_feed.specs.declared.queue.Todo.{Todo}
use Rattle.fish_feed.specs.declared.queue.Todo.TheVariants as todo
use Rattle.fish_lanes.specs.declared.work.Work.{Work}
use Rattle.fish_lanes.specs.declared.work.Work.TheVariants as work
use Rattle.fish_lines.specs.declared.resuming.Begin.{Begin}
use Rattle.fish_lines.specs.declared.resuming.Begin.TheVariants.{Start}
use Rattle.fish_outside.specs.Content.{Files, SameFiles, Took}
use Rattle.fish_value.specs.Limits.{longest_file}
use Rattle.fish_script.specs.declared.script.Statement.{Statement}
use Rattle.fish_script.specs.declared.script.Statement.TheVariants as does

-- ---- statements that were done

-- what was done over files that were told was over those that still are
done_later : (old new : Option Files) → SameFiles old new → (s : Statement) (ws : List Work) → IsDone old s ws → IsDone new s ws
done_later old new still (does.Register name def) ws h = h
done_later old new still (does.Deregister name) ws h = h
done_later old new still (does.Ingest form header name) ws h =
    (h.0, h.1, told_later old new (λ files. files name ≡ Some h.0) still h.2)
done_later old new still (does.Scan name value from to way) ws h = h
done_later old new still (does.Explain name value from to way) ws h = h
done_later old new still does.Checkpoint ws h = h

pub dones_later : (old new : Option Files) → SameFiles old new → (ss : List Statement) (ws : List Work) → AreStatementsDone old ss ws
    → AreStatementsDone new ss ws
dones_later old new still [] ws h = h
dones_later old new still (s ∷ ss) ws h =
    (h.0, h.1, h.2, done_later old new still s h.0 h.3, dones_later old new still ss h.1 h.4)

pub dones_join : (told : Option Files) (ss more : List Statement) (ws then : List Work) → AreStatementsDone told ss ws
    → AreStatementsDone told more then
    → AreStatementsDone told (ss ++ more) (ws ++ then)
dones_join told [] more ws then h k = subst (λ (z : List Work). AreStatementsDone told more (z ++ then)) (sym h) k
dones_join told (s ∷ ss) more ws then h k = (
  h.0,
  h.1 ++ then,
  ap (λ (z : List Work). z ++ then) h.2 ∙ append_assoc h.0 h.1 then,
  h.3,
  dones_join told ss more h.1 then h.4 k,
)

dones_one : (told : Option Files) (s : Statement) (ws : List Work) → IsDone told s ws → AreStatementsDone told (s ∷ []) ws
dones_one told s ws h = (ws, [], sym (append-nil ws), h, refl)

-- a statement without a file is done by its work
work_done : (told : Option Files) (s : Statement) (w : Work) → IsWorkOf s w → IsDone told s (w ∷ [])
work_done told (does.Register name def) w h = (w, refl, h)
work_done told (does.Deregister name) w h = (w, refl, h)
work_done told (does.Ingest form header name) w h = elim h [ ]
work_done told (does.Scan name value from to way) w h = (w, refl, h)
work_done told (does.Explain name value from to way) w h = (w, refl, h)
work_done told does.Checkpoint w h = (w, refl, h)

-- after these bytes and those that came of it the file has what is left, but for bytes that were lost
abbrev Knows : {F : Type 0} → OpenFile F → List ℕ → List ℕ → Files → Type 0
Knows o before l files = (then : List ℕ) × (o.lost ≡ false → then ≡ l) × (files o.name ≡ Some (before ++ (o.rest ++ then)))

module _ {F : Type 0} (left : F → Option (List ℕ)) where
  -- ---- a file

  open_later : (old new : Option Files) → SameFiles old new → (s : Statement) (given : List Work) (o : OpenFile F)
      → IsOpenOf old left s given o → IsOpenOf new left s given o
  open_later old new still s given o h = record {
    header = h.header;
    is = h.is;
    before = h.before;
    parts = h.parts;
    begin_is = h.begin_is;
    room_is = h.room_is;
    file = told_later old new (λ files. IfSome (left o.feed) (λ l. Knows o h.before l files)) still h.file;
  }

  -- more of it came
  open_on : (told : Option Files) (s : Statement) (given : List Work) (o u : OpenFile F) → IsOpenOf told left s given o
      → ReadsOnFile left o u
      → IsOpenOf told left s given u
  open_on told s given o u h r = record {
    header = h.header;
    is = h.is ∙ (λ i. does.Ingest (sym r.form_is i) h.header (sym r.name_is i));
    before = h.before;
    parts = subst (λ (z : OpenFile F). AreParts z.form (Start h.header) z.name h.before given [])
        (λ i. record o { form = sym r.form_is i; name = sym r.name_is i }) h.parts;
    begin_is = r.begin_is ∙ h.begin_is;
    room_is = ap (λ (z : ℕ). length h.before + z) r.room_is ∙ h.room_is;
    file = by told h.file;
  }
    where
      -- before what was lost
      eq : (then : List ℕ) → o.rest ++ (r.more ++ then) ≡ u.rest ++ then
      eq then = sym (append_assoc o.rest r.more then) ∙ ap (λ (z : List ℕ). z ++ then) (sym r.rest_is)

      by_lost : (files : Files) (y l : List ℕ) → y ≡ (r.more ++ r.gone) ++ l → (b : Bool) → o.lost ≡ b → Knows o h.before y files
          → Knows u h.before l files
      by_lost files y l is true lost k = (
        k.0,
        λ whole. absurd (let bad : true ≡ false = sym lost ∙ (r.whole whole).0 in cc),
        ap files r.name_is ∙ k.2 ∙ ap (λ (z : List ℕ). Some (h.before ++ z))
            (ap (λ (z : List ℕ). o.rest ++ (z ++ k.0)) (sym (r.none lost)) ∙ eq k.0),
      )
      by_lost files y l is false lost k = (
        r.gone ++ l,
        λ whole. ap (λ (z : List ℕ). z ++ l) (r.whole whole).1,
        ap files r.name_is ∙ k.2 ∙ ap (λ (z : List ℕ). Some (h.before ++ z))
            (ap (λ (z : List ℕ). o.rest ++ z) (k.1 lost ∙ is ∙ append_assoc r.more r.gone l) ∙ eq (r.gone ++ l)),
      )

      by_left : (files : Files) (y x : Option (List ℕ)) → Took y x (r.more ++ r.gone) → IfSome y (λ l. Knows o h.before l files)
          → IfSome x (λ l. Knows u h.before l files)
      by_left files y None took k = tt
      by_left files None (Some l) took k = absurd (let bad : None ≡ Some ((r.more ++ r.gone) ++ l) = took in cc)
      by_left files (Some y) (Some l) took k = by_lost files y l (same_Some y ((r.more ++ r.gone) ++ l) took) o.lost refl k

      by : (t : Option Files) → IfSome t (λ files. IfSome (left o.feed) (λ l. Knows o h.before l files))
          → IfSome t (λ files. IfSome (left u.feed) (λ l. Knows u h.before l files))
      by None k = tt
      by (Some files) k = by_left files (left o.feed) (left u.feed) r.took k

  -- one more part of it was given
  pub open_part : (told : Option Files) (s : Statement) (given : List Work) (o : OpenFile F) (w : Work) (u : OpenFile F)
      → IsOpenOf told left s given o → IsFilePart left o w u → IsOpenOf told left s (given ++ w ∷ []) u
  open_part told s given o w u h p = record {
    header = h.header;
    is = h.is ∙ (λ i. does.Ingest (sym p.form_is i) h.header (sym p.name_is i));
    before = h.before ++ p.part;
    parts = subst (λ (z : OpenFile F). AreParts z.form (Start h.header) z.name (h.before ++ p.part) (given ++ w ∷ []) [])
        (λ i. record o { form = sym p.form_is i; name = sym p.name_is i })
        (parts_then o.form (Start h.header) o.name h.before given p.part w h.parts p.json p.line
        (p.is ∙ ap (λ (z : Begin). work.Ingest o.form z o.name p.part) h.begin_is));
    begin_is = p.begin_is ∙ sym (after_push (Start h.header) given w);
    room_is = omega (length-append h.before p.part, h.room_is, p.room_is, arith);
    file = by told h.file;
  }
    where
      eq : (k l : List ℕ) → k ≡ p.more ++ l → h.before ++ (o.rest ++ k) ≡ (h.before ++ p.part) ++ (u.rest ++ l)
      eq k l is = ap (λ (z : List ℕ). h.before ++ (o.rest ++ z)) is
          ∙ ap (λ (z : List ℕ). h.before ++ z) (sym (append_assoc o.rest p.more l) ∙ ap (λ (z : List ℕ). z ++ l) p.cut
          ∙ append_assoc p.part u.rest l)
          ∙ sym (append_assoc h.before p.part (u.rest ++ l))

      by_left : (files : Files) (y x : Option (List ℕ)) → Took y x p.more
          → IfSome y (λ l. Knows o h.before l files) → IfSome x (λ l. Knows u (h.before ++ p.part) l files)
      by_left files y None took k = tt
      by_left files None (Some l) took k = absurd (let bad : None ≡ Some (p.more ++ l) = took in cc)
      by_left files (Some y) (Some l) took k = (
        l,
        λ _. refl,
        ap files p.name_is ∙ k.2
            ∙ ap (λ (z : List ℕ). Some z) (eq k.0 l (k.1 p.whole.0 ∙ same_Some y (p.more ++ l) took)),
      )

      by : (t : Option Files) → IfSome t (λ files. IfSome (left o.feed) (λ l. Knows o h.before l files))
          → IfSome t (λ files. IfSome (left u.feed) (λ l. Knows u (h.before ++ p.part) l files))
      by None k = tt
      by (Some files) k = by_left files (left o.feed) (left u.feed) p.took k

  module _ (told new : Option Files) (still : SameFiles told new) (s : Statement) (given : List Work) (o : OpenFile F)
      (h : IsOpenOf told left s given o) where
    -- given some last works, where the file is known to have these bytes
    ends_with : (rest bytes : List ℕ) (w : Work) → bytes ≡ take longest_csv_read rest → w ≡ work.Ingest o.form o.begin o.name bytes
        → (longest_file < length rest → IsStuck o.form o.room bytes)
        → IfSome new (λ files. files o.name ≡ Some (h.before ++ rest)) → IsDone new s (given ++ w ∷ [])
    ends_with rest bytes w bytes_are is stuck file = subst (λ (z : Statement). IsDone new z (given ++ w ∷ [])) (sym h.is) (
      h.before ++ rest,
      parts_rest o.form (Start h.header) o.name h.before given rest bytes w h.parts bytes_are
          (is ∙ ap (λ (z : Begin). work.Ingest o.form z o.name bytes) h.begin_is)
          (λ long. too_long o.form h.before rest o.room h.room_is (subst (IsStuck o.form o.room) bytes_are (stuck long)) long),
      file,
    )

    -- some last works may be given, where the file is known to have these bytes
    ends_somehow : (rest : List ℕ) → IfSome new (λ files. files o.name ≡ Some (h.before ++ rest))
        → (more : List Work) × IsDone new s (given ++ more)
    ends_somehow rest file =
        let all = read_all o.form (Start h.header) o.name h.before given o.room h.parts h.room_is rest in
        (all.0, subst (λ (z : Statement). IsDone new z (given ++ all.0)) (sym h.is) (h.before ++ rest, all.1, file))

    -- what the file has, where it is still told
    file_has : (files : Files) → new ≡ Some files → (l : List ℕ) → left o.feed ≡ Some l → Knows o h.before l files
    file_has files new_is l left_is =
        let was : told ≡ Some files = subst (λ (z : Option Files). SameFiles told z) new_is still in
        let file = subst (λ (z : Option Files). IfSome z (λ f. IfSome (left o.feed) (λ k. Knows o h.before k f))) was h.file in
        subst (λ (z : Option (List ℕ)). IfSome z (λ k. Knows o h.before k files)) left_is file

    -- all that was left was given
    pub open_rest : (w : Work) (u : OpenFile F) → IsRestOf left o w u → (IsSome new → IsSome (left u.feed))
        → IsDone new s (given ++ w ∷ [])
    open_rest w u r feed = by new refl (left u.feed) refl r.all
      where
        known : (files : Files) → new ≡ Some files
            → (l : List ℕ) × (left o.feed ≡ Some l) × (r.bytes ≡ take longest_csv_read (o.rest ++ l)) → IsDone new s (given ++ w ∷ [])
        known files new_is k = ends_with (o.rest ++ k.0) r.bytes w k.2 r.is
            (λ long. r.stuck (omega (ap length k.2, length-take longest_csv_read (o.rest ++ k.0), long, arith)))
            (subst (λ (z : Option Files). IfSome z (λ f. f o.name ≡ Some (h.before ++ (o.rest ++ k.0)))) (sym new_is)
            (let has = file_has files new_is k.0 k.1 in
            has.2 ∙ ap (λ (z : List ℕ). Some (h.before ++ (o.rest ++ z))) (has.1 r.whole)))

        by : (n : Option Files) → new ≡ n → (x : Option (List ℕ)) → left u.feed ≡ x
            → IfSome x (λ _. (l : List ℕ) × (left o.feed ≡ Some l) × (r.bytes ≡ take longest_csv_read (o.rest ++ l)))
            → IsDone new s (given ++ w ∷ [])
        by None new_is x left_is all = ends_with r.bytes r.bytes w (sym (take_all longest_csv_read r.bytes r.few)) r.is r.stuck
            (subst (λ (z : Option Files). IfSome z (λ f. f o.name ≡ Some (h.before ++ r.bytes))) (sym new_is) tt)
        by (Some files) new_is None left_is all = absurd (
            let told_now : IsSome (left u.feed) = feed (subst IsSome (sym new_is) refl) in
            let bad : IsSome {T = List ℕ} None = subst IsSome left_is told_now in
            cc)
        by (Some files) new_is (Some z) left_is all = known files new_is all

    -- some works may follow that do the statement
    pub open_end : (IsSome new → IsSome (left o.feed)) → (more : List Work) × IsDone new s (given ++ more)
    open_end feed = by new refl (left o.feed) refl
      where
        by : (n : Option Files) → new ≡ n → (x : Option (List ℕ)) → left o.feed ≡ x → (more : List Work) × IsDone new s (given ++ more)
        by None new_is x left_is = ends_somehow o.rest
            (subst (λ (z : Option Files). IfSome z (λ f. f o.name ≡ Some (h.before ++ o.rest))) (sym new_is) tt)
        by (Some files) new_is None left_is = absurd (
            let told_now : IsSome (left o.feed) = feed (subst IsSome (sym new_is) refl) in
            let bad : IsSome {T = List ℕ} None = subst IsSome left_is told_now in
            cc)
        by (Some files) new_is (Some l) left_is =
            let has = file_has files new_is l left_is in
            ends_somehow (o.rest ++ has.0)
            (subst (λ (z : Option Files). IfSome z (λ f. f o.name ≡ Some (h.before ++ (o.rest ++ has.0)))) (sym new_is) has.2)

  -- ---- statements that are to be given

  pub due_later : (old new : Option Files) → SameFiles old new → (s : Statement) (t : Todo F) → IsDue old left s t → IsDue new left s t
  due_later old new still s (todo.Work w) h = h
  due_later old new still s (todo.File o) h =
      (open_later old new still s [] o h.0, told_later old new (λ files. IsSome (left o.feed)) still h.1)

  pub dues_later : (old new : Option Files) → SameFiles old new → (ss : List Statement) (todos : List (Todo F))
      → Pairs (IsDue old left) ss todos → Pairs (IsDue new left) ss todos
  dues_later old new still [] [] h = tt
  dues_later old new still [] (t ∷ todos) h = elim h [ ]
  dues_later old new still (s ∷ ss) [] h = elim h [ ]
  dues_later old new still (s ∷ ss) (t ∷ todos) h = (due_later old new still s t h.0, dues_later old new still ss todos h.1)

  -- some works do it
  due_end : (old new : Option Files) → SameFiles old new → (s : Statement) (t : Todo F) → IsDue old left s t
      → (ws : List Work) × IsDone new s ws
  due_end old new still s (todo.Work w) h = (w ∷ [], work_done new s w h)
  due_end old new still s (todo.File o) h = open_end old new still s [] o h.0 (told_now new still)
    where
      told_now : (n : Option Files) → SameFiles old n → IsSome n → IsSome (left o.feed)
      told_now None still_ bad = absurd cc
      told_now (Some files) still_ some = subst (λ (z : Option Files). IfSome z (λ _. IsSome (left o.feed))) still_ h.1

  dues_end : (old new : Option Files) → SameFiles old new → (ss : List Statement) (todos : List (Todo F))
      → Pairs (IsDue old left) ss todos → (ws : List Work) × AreStatementsDone new ss ws
  dues_end old new still [] [] h = ([], refl)
  dues_end old new still [] (t ∷ todos) h = elim h [ ]
  dues_end old new still (s ∷ ss) [] h = elim h [ ]
  dues_end old new still (s ∷ ss) (t ∷ todos) h =
      let one = due_end old new still s t h.0 in
      let more = dues_end old new still ss todos h.1 in
      (one.0 ++ more.0, (one.0, more.0, refl, one.1, more.1))

  -- ---- a queue

  goes_later : (old new : Option Files) → SameFiles old new → (c : Option (OpenFile F)) (ss : List Statement) (given : List Work)
      (todos : List (Todo F)) → GoesOnFeed old left c ss given todos → GoesOnFeed new left c ss given todos
  goes_later old new still None ss given todos h = (h.0, dues_later old new still ss todos h.1)
  goes_later old new still (Some o) [] given todos h = elim h [ ]
  goes_later old new still (Some o) (s ∷ ss) given todos h =
      (open_later old new still s given o h.0, dues_later old new still ss todos h.1)

  pub queue_later : (old new : Option Files) → SameFiles old new → (ss : List Statement) (given : List Work) (c : Option (OpenFile F))
      (todos : List (Todo F)) → HasQueue old left ss given c todos → HasQueue new left ss given c todos
  queue_later old new still ss given c todos h = record {
    done = h.done;
    next = h.next;
    first = h.first;
    then = h.then;
    statements = h.statements;
    works = h.works;
    are = dones_later old new still h.done h.first h.are;
    goes = goes_later old new still c h.next h.then todos h.goes;
  }

  module _ (told : Option Files) (ss : List Statement) (given : List Work) where
    -- the next statement was given
    pub queue_work : (w : Work) (todos : List (Todo F)) → HasQueue told left ss given None (todo.Work w ∷ todos)
        → HasQueue told left ss (given ++ w ∷ []) None todos
    queue_work w todos h = by h.next refl h.goes
      where
        by : (next : List Statement) → h.next ≡ next → GoesOnFeed told left None next h.then (todo.Work w ∷ todos)
            → HasQueue told left ss (given ++ w ∷ []) None todos
        by [] is goes = elim goes.1 [ ]
        by (s ∷ next) is goes = record {
          done = h.done ++ s ∷ [];
          next = next;
          first = h.first ++ w ∷ [];
          then = [];
          statements = h.statements ∙ ap (λ (z : List Statement). h.done ++ z) is ∙ sym (append_assoc h.done (s ∷ []) next);
          works = ap (λ (z : List Work). z ++ w ∷ []) (h.works ∙ ap (λ (z : List Work). h.first ++ z) goes.0 ∙ append-nil h.first)
              ∙ sym (append-nil (h.first ++ w ∷ []));
          are = dones_join told h.done (s ∷ []) h.first (w ∷ []) h.are (dones_one told s (w ∷ []) (work_done told s w goes.1.0));
          goes = (refl, goes.1.1);
        }

    -- the next file is open
    pub queue_file : (o : OpenFile F) (todos : List (Todo F)) → HasQueue told left ss given None (todo.File o ∷ todos)
        → HasQueue told left ss given (Some o) todos
    queue_file o todos h = by h.next refl h.goes
      where
        by : (next : List Statement) → h.next ≡ next → GoesOnFeed told left None next h.then (todo.File o ∷ todos)
            → HasQueue told left ss given (Some o) todos
        by [] is goes = elim goes.1 [ ]
        by (s ∷ next) is goes = record {
          done = h.done;
          next = s ∷ next;
          first = h.first;
          then = h.then;
          statements = h.statements ∙ ap (λ (z : List Statement). h.done ++ z) is;
          works = h.works;
          are = h.are;
          goes = (subst (λ (z : List Work). IsOpenOf told left s z o) (sym goes.0) goes.1.0.0, goes.1.1);
        }

    -- more of it came
    pub queue_on : (o u : OpenFile F) (todos : List (Todo F)) → HasQueue told left ss given (Some o) todos → ReadsOnFile left o u
        → HasQueue told left ss given (Some u) todos
    queue_on o u todos h r = record {
      done = h.done;
      next = h.next;
      first = h.first;
      then = h.then;
      statements = h.statements;
      works = h.works;
      are = h.are;
      goes = by h.next h.goes;
    }
      where
        by : (next : List Statement) → GoesOnFeed told left (Some o) next h.then todos → GoesOnFeed told left (Some u) next h.then todos
        by [] goes = elim goes [ ]
        by (s ∷ next) goes = (open_on told s h.then o u goes.0 r, goes.1)

    -- a part of it was given
    pub queue_part : (o u : OpenFile F) (w : Work) (todos : List (Todo F)) → HasQueue told left ss given (Some o) todos
        → IsFilePart left o w u → HasQueue told left ss (given ++ w ∷ []) (Some u) todos
    queue_part o u w todos h p = record {
      done = h.done;
      next = h.next;
      first = h.first;
      then = h.then ++ w ∷ [];
      statements = h.statements;
      works = ap (λ (z : List Work). z ++ w ∷ []) h.works ∙ append_assoc h.first h.then (w ∷ []);
      are = h.are;
      goes = by h.next h.goes;
    }
      where
        by : (next : List Statement) → GoesOnFeed told left (Some o) next h.then todos
            → GoesOnFeed told left (Some u) next (h.then ++ w ∷ []) todos
        by [] goes = elim goes [ ]
        by (s ∷ next) goes = (open_part told s h.then o w u goes.0 p, goes.1)

    module _ (new : Option Files) (still : SameFiles told new) where
      -- all that was left of it was given
      pub queue_rest : (o u : OpenFile F) (w : Work) (todos : List (Todo F)) → HasQueue told left ss given (Some o) todos
          → IsRestOf left o w u → (IsSome new → IsSome (left u.feed)) → HasQueue new left ss (given ++ w ∷ []) None todos
      queue_rest o u w todos h r feed = by h.next refl h.goes
        where
          by : (next : List Statement) → h.next ≡ next → GoesOnFeed told left (Some o) next h.then todos
              → HasQueue new left ss (given ++ w ∷ []) None todos
          by [] is goes = elim goes [ ]
          by (s ∷ next) is goes = record {
            done = h.done ++ s ∷ [];
            next = next;
            first = h.first ++ (h.then ++ w ∷ []);
            then = [];
            statements = h.statements ∙ ap (λ (z : List Statement). h.done ++ z) is ∙ sym (append_assoc h.done (s ∷ []) next);
            works = ap (λ (z : List Work). z ++ w ∷ []) h.works ∙ append_assoc h.first h.then (w ∷ [])
                ∙ sym (append-nil (h.first ++ (h.then ++ w ∷ [])));
            are = dones_join new h.done (s ∷ []) h.first (h.then ++ w ∷ []) (dones_later told new still h.done h.first h.are)
                (dones_one new s (h.then ++ w ∷ []) (open_rest told new still s h.then o goes.0 w u r feed));
            goes = (refl, dues_later told new still next todos goes.1);
          }

      -- works may follow that do all statements
      pub queue_end : (c : Option (OpenFile F)) (todos : List (Todo F)) → HasQueue told left ss given c todos
          → IfSome c (λ o. IsSome new → IsSome (left o.feed)) → AreFirstOf new ss given
      queue_end c todos h feed =
          let rest = by c h.next h.goes feed in (
            rest.0,
            subst (λ (z : List Statement × List Work). AreStatementsDone new z.0 z.1)
                (λ i. (
                  sym h.statements i,
                  (sym (append_assoc h.first h.then rest.0) ∙ ap (λ (z : List Work). z ++ rest.0) (sym h.works)) i,
                ))
                (dones_join new h.done h.next h.first (h.then ++ rest.0) (dones_later told new still h.done h.first h.are) rest.1),
          )
        where
          by : (d : Option (OpenFile F)) (next : List Statement) → GoesOnFeed told left d next h.then todos
              → IfSome d (λ o. IsSome new → IsSome (left o.feed)) → (more : List Work) × AreStatementsDone new next (h.then ++ more)
          by None next goes known =
              let all = dues_end told new still next todos goes.1 in
              (all.0, subst (λ (z : List Work). AreStatementsDone new next (z ++ all.0)) (sym goes.0) all.1)
          by (Some o) [] goes known = elim goes [ ]
          by (Some o) (s ∷ next) goes known =
              let one = open_end told new still s h.then o goes.0 known in
              let all = dues_end told new still next todos goes.1 in
              (one.0 ++ all.0, (h.then ++ one.0, all.0, sym (append_assoc h.then one.0 all.0), one.1, all.1))

    -- where nothing is to be given, all statements are done
    pub queue_none : HasQueue told left ss given None [] → AreStatementsDone told ss given
    queue_none h = by h.next refl h.goes
      where
        by : (next : List Statement) → h.next ≡ next → GoesOnFeed told left None next h.then [] → AreStatementsDone told ss given
        by [] is goes = subst (λ (z : List Statement × List Work). AreStatementsDone told z.0 z.1)
            (λ i. (
              sym (h.statements ∙ ap (λ (z : List Statement). h.done ++ z) is ∙ append-nil h.done) i,
              sym (h.works ∙ ap (λ (z : List Work). h.first ++ z) goes.0 ∙ append-nil h.first) i,
            )) h.are
        by (s ∷ next) is goes = elim goes.1 [ ]
