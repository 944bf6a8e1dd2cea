-- What a lane is still to be given, and what a step of that leaves. Feeds are of a type F; left says which bytes one
-- still gives, and faults how often it failed.
use Rattle.std.specs.Prelude.{ℕ, ◌≡◌, ◌+◌, ◌<◌, ◌≤◌, ◌⊎◌, List, [], ◌∷◌, ◌++◌, Bool, true, false}
use Rattle.std.specs.Prelude.{Option, None, Some, IfSome, IsSome, length, map, slice_get, ⊤}
use Rattle.fish_feed.specs.OpenFiles.{CanRead, HasPassedHeader}
use Rattle.fish_feed.specs.Parts.{AreParts, begin_after, longest_given, longest_in_parts}
use Rattle.fish_feed.specs.Works.{AreAnewAfterFirst, AreStatementsDone, IsWorkOf, StoresNone, bytes_in_works}
use Rattle.fish_feed.specs.declared.part.OpenFile.{OpenFile}
use Rattle.fish_feed.specs.declared.queue.Queue.{Queue}
use Rattle.fish_feed.specs.declared.queue.Todo.{Todo}
use Rattle.fish_feed.specs.declared.queue.Todo.TheVariants as todo
use Rattle.fish_lanes.specs.Registering.{IsAcceptable}
use Rattle.fish_lanes.specs.Running.{IsShared}
use Rattle.fish_lanes.specs.declared.lane.Lane.{Lane}
use Rattle.fish_lanes.specs.declared.work.Work.{Work}
use Rattle.fish_lines.specs.declared.resuming.Begin.TheVariants.{Start}
use Rattle.fish_outside.specs.Content.{Files}
use Rattle.fish_script.specs.Laws.{Pairs}
use Rattle.fish_script.specs.Runnable.{AreRunnable}
use Rattle.fish_script.specs.Script.{AreFree}
use Rattle.fish_script.specs.declared.script.Statement.{Statement}
use Rattle.fish_script.specs.declared.script.Statement.TheVariants as does

-- ---- statements that are to be given

-- this much was given of the file that a statement names; what came and what is left, but for lost bytes, is to come
pub record IsOpenOf {F : Type 0} (told : Option Files) (left : F → Option (List ℕ)) (s : Statement) (given : List Work)
    (o : OpenFile F) : Type 0 where
  pub header : Bool
  pub is : s ≡ does.Ingest o.form header o.name
  pub before : List ℕ
  pub parts : AreParts o.form (Start header) o.name before given []
  pub begin_is : o.begin ≡ begin_after (Start header) given
  pub room_is : length before + o.room ≡ longest_in_parts
  pub file : IfSome told (λ files. IfSome (left o.feed) (λ l. (then : List ℕ) × (o.lost ≡ false → then ≡ l)
      × (files o.name ≡ Some (before ++ (o.rest ++ then)))))

-- the statement is to be given
abbrev pub IsDue : {F : Type 0} → Option Files → (F → Option (List ℕ)) → Statement → Todo F → Type 0
IsDue told left s (todo.Work w) = IsWorkOf s w
IsDue told left s (todo.File o) = IsOpenOf told left s [] o × IfSome told (λ files. IsSome (left o.feed))

-- the first statement has the file that is being read, if one is, of which so much was given; the others are to come
abbrev pub GoesOnFeed : {F : Type 0} → Option Files → (F → Option (List ℕ)) → Option (OpenFile F) → List Statement
    → List Work → List (Todo F) → Type 0
GoesOnFeed told left None ss given todos = (given ≡ []) × Pairs (IsDue told left) ss todos
GoesOnFeed told left (Some o) [] given todos = ⊥
GoesOnFeed told left (Some o) (s ∷ ss) given todos = IsOpenOf told left s given o × Pairs (IsDue told left) ss todos

-- a lane of these statements was given these works, and is to be given what is open and what follows
pub record HasQueue {F : Type 0} (told : Option Files) (left : F → Option (List ℕ)) (ss : List Statement)
    (given : List Work) (current : Option (OpenFile F)) (todos : List (Todo F)) : Type 0 where
  pub done : List Statement
  pub next : List Statement
  pub first : List Work
  pub then : List Work
  pub statements : ss ≡ done ++ next
  pub works : given ≡ first ++ then
  pub are : AreStatementsDone told done first
  pub goes : GoesOnFeed told left current next then todos

abbrev pub IsQueue
    : {F : Type 0} → Option Files → (F → Option (List ℕ)) → List Statement → List Work → Queue F → Type 0
IsQueue told left ss given q = HasQueue told left ss given q.current q.todos.items

-- it was given these works, and perhaps others that were lost
abbrev pub MayEndFeed
    : {F : Type 0} → Option Files → (F → Option (List ℕ)) → List Statement → List Work → Queue F → Type 0
MayEndFeed told left ss given q =
    (more : List Work) × (IsQueue told left ss (given ++ more) q ⊎ AreStatementsDone told ss (given ++ more))

-- ---- before a block

-- the statements of each lane can be run
abbrev pub AllRunnable : List (List Statement) → Type 0
AllRunnable texts = (i : ℕ) (ss : List Statement) → slice_get texts i ≡ Some ss → AreRunnable ss

-- and what the first lane alone may hold stands in no other
abbrev pub OthersAreFree : List (List Statement) → Type 0
OthersAreFree texts = (i : ℕ) (ss : List Statement) → 0 < i → slice_get texts i ≡ Some ss → AreFree ss

-- ---- works that a lane may do

-- the first lane may do this, and any other that
abbrev pub MayDo : Bool → Work → Type 0
MayDo true w = IsAcceptable w
MayDo false w = IsShared w

abbrev pub IsFitTodo : {F : Type 0} → (F → ℕ) → Bool → Todo F → Type 0
IsFitTodo faults first (todo.Work w) = MayDo first w × StoresNone w
IsFitTodo faults first (todo.File o) = CanRead faults o × (HasPassedHeader o → ⊥)

abbrev pub AreFitTodos : {F : Type 0} → (F → ℕ) → Bool → List (Todo F) → Type 0
AreFitTodos faults first [] = ⊤
AreFitTodos faults first (t ∷ todos) = IsFitTodo faults first t × AreFitTodos faults first todos

-- the queue is one for the first lane, or for another
pub record IsFitQueue {F : Type 0} (faults : F → ℕ) (first : Bool) (q : Queue F) : Type 0 where
  pub current : IfSome q.current (CanRead faults)
  pub todos : AreFitTodos faults first q.todos.items

abbrev pub AreFit : {F : Type 0} → (F → ℕ) → Bool → List (Queue F) → Type 0
AreFit faults first [] = ⊤
AreFit faults first (q ∷ queues) = IsFitQueue faults first q × AreFit faults false queues

-- the statements of a lane are such, and of lanes
abbrev pub MayDoAll : Bool → List Work → Type 0
MayDoAll first [] = ⊤
MayDoAll first (w ∷ ws) = MayDo first w × MayDoAll first ws

abbrev pub LanesMayDo : Bool → List Lane → Type 0
LanesMayDo first [] = ⊤
LanesMayDo first (x ∷ lanes) = MayDoAll first x.works × LanesMayDo false lanes

-- ---- lanes

-- what they were given
abbrev pub works_of : List Lane → List (List Work)
works_of lanes = map (λ x. x.works) lanes

-- these works, and after them those, of each lane
abbrev pub both : List (List Work) → List (List Work) → List (List Work)
both [] ys = []
both (x ∷ xs) [] = []
both (x ∷ xs) (y ∷ ys) = (x ++ y) ∷ both xs ys

-- a lane had no statement, and got some with few bytes of files, of which the first alone may be a later part of one
pub record IsGiven (x y : Lane) : Type 0 where
  pub none : x.works ≡ []
  pub is : y ≡ record x { works = y.works }
  pub one : AreAnewAfterFirst y.works
  pub few : bytes_in_works y.works ≤ longest_given

-- no lane has a statement
abbrev pub AreIdle : List Lane → Type 0
AreIdle [] = ⊤
AreIdle (x ∷ lanes) = (x.works ≡ []) × AreIdle lanes

-- ---- how much is to come

-- it doesn't rise, and falls unless it was nothing
pub record GoesDown (before now : ℕ) : Type 0 where
  pub down : now ≤ before
  pub falls : 0 < before → now < before

abbrev pub todo_left : {F : Type 0} → Todo F → ℕ
todo_left (todo.Work w) = 1
todo_left (todo.File o) = o.room + 2

abbrev pub todos_left : {F : Type 0} → List (Todo F) → ℕ
todos_left [] = 0
todos_left (t ∷ todos) = todo_left t + todos_left todos

abbrev pub current_left : {F : Type 0} → Option (OpenFile F) → ℕ
current_left None = 0
current_left (Some o) = o.room + 1

-- of a queue at most so many works come, and of queues
abbrev pub left_of : {F : Type 0} → Queue F → ℕ
left_of q = current_left q.current + todos_left q.todos.items

abbrev pub left_of_all : {F : Type 0} → List (Queue F) → ℕ
left_of_all [] = 0
left_of_all (q ∷ queues) = left_of q + left_of_all queues
