-- What a command answers, for each way that it ends.
use Rattle.std.specs.Prelude.{◌≡◌, ◌≢◌, ◌⊎◌, ℕ, List, Option, None, IfSome, IsSomeAnd}
use Rattle.sv_dev.specs.Told.{grown, AppendsFront}
use Rattle.sv_form.specs.Node.{Node}
use Rattle.sv_check.specs.Condition.{number_of}
use Rattle.sv_check.specs.FilePages.{file_of, text_of}
use Rattle.sv_check.specs.Sound.{Flaw, IsSound}
use Rattle.sv_session.specs.declared.stop.Stop.{Stop}
use Rattle.sv_session.specs.declared.stop.Stop.TheVariants.{Words, Refused, DeviceFault, FileFault, WriteFault, NoMemory, JournalRefused}
use Rattle.sv_session.specs.declared.stop.Stop.TheVariants.{NoSuchFile}
use Rattle.sv_session.specs.Command.{Command, cat, check, mkfs, replay}
use Rattle.sv_session.specs.Making.{LeavesUnmade, Makes, StopsMaking}
use Rattle.sv_session.specs.Replay.{LeavesListing, Lists, RefusesLine, StopsReplay}
use Rattle.sv_session.specs.SoundLine.{sound_line}
use Rattle.sv_session.specs.Stop.{status_of, noted_line}

-- where the host tells its images, one stands under that name, and this holds of it
abbrev pub OnImage : Option (List ℕ → Option (List ℕ)) → List ℕ → (List ℕ → Type 0) → Type 0
OnImage images name P = IfSome images (λ under. IsSomeAnd (under name) P)

-- Each stop has its cause: an image (`on` says that something holds of it), or a count of faults that rose.
abbrev pub HasReason : ((List ℕ → Type 0) → Type 0) → (missing device file write : Type 0) → Stop → Type 0
HasReason on missing device file write Words = ⊥
HasReason on missing device file write (Refused condition place) = on (λ image. Flaw image (number_of condition) place)
HasReason on missing device file write DeviceFault = device
HasReason on missing device file write FileFault = file
HasReason on missing device file write WriteFault = write
HasReason on missing device file write NoMemory = Unit {0}
HasReason on missing device file write (JournalRefused line) = ⊥
HasReason on missing device file write NoSuchFile = missing

-- ---- `cat` of file n

-- the image is sound, and n is a regular file of which this holds
pub record HasFile (n : ℕ) (P : Node → Type 0) (image : List ℕ) : Type 0 where
  pub sound : IsSound image
  pub file : IsSomeAnd (file_of image n) P

-- exactly its bytes were appended
abbrev pub Shows : ℕ → Option (List ℕ) → Option (List ℕ) → List ℕ → Type 0
Shows n old new image = HasFile n (λ node. new ≡ grown old (text_of image node)) image

-- a front of them was
abbrev pub ShowsFront : ℕ → Option (List ℕ) → Option (List ℕ) → List ℕ → Type 0
ShowsFront n old new image = HasFile n (λ node. AppendsFront old new (text_of image node)) image

-- the image is sound, and n is no regular file
pub record LacksFile (n : ℕ) (image : List ℕ) : Type 0 where
  pub sound : IsSound image
  pub fails : file_of image n ≡ None

-- What a stop leaves in the sink: nothing was written where the image or the file is refused, else at most a front.
abbrev pub LeavesSink : ((List ℕ → Type 0) → Type 0) → ℕ → Option (List ℕ) → Option (List ℕ) → Stop → Type 0
LeavesSink on n old new Words = new ≡ old
LeavesSink on n old new (Refused condition place) = new ≡ old
LeavesSink on n old new (JournalRefused line) = new ≡ old
LeavesSink on n old new NoSuchFile = new ≡ old
LeavesSink on n old new DeviceFault = (new ≡ old) ⊎ on (ShowsFront n old new)
LeavesSink on n old new FileFault = new ≡ old
LeavesSink on n old new WriteFault = on (ShowsFront n old new)
LeavesSink on n old new NoMemory = new ≡ old

-- `cat` of file n ended with that status: the file was shown, or a stop is told, with its reason and its line.
pub record CatAnswer (images : Option (List ℕ → Option (List ℕ))) (name : List ℕ) (n : ℕ) (device file write : Type 0)
    (old new : Option (List ℕ)) (noted : List ℕ → Type 0) (status : ℕ) : Type 0 where
  pub done : status ≡ 0 → OnImage images name (Shows n old new)
  pub stopped : status ≢ 0 → (stop : Stop) × (status ≡ status_of stop)
      × HasReason (OnImage images name) (OnImage images name (LacksFile n)) device file write stop
      × LeavesSink (OnImage images name) n old new stop × noted (noted_line stop)

-- ---- `check`

-- the image is sound, and its line was appended
pub record IsCalledSound (old new : Option (List ℕ)) (image : List ℕ) : Type 0 where
  pub sound : IsSound image
  pub line : new ≡ grown old (sound_line image)

-- the image is sound, and a front of its line was appended
pub record IsCalledSoundInPart (old new : Option (List ℕ)) (image : List ℕ) : Type 0 where
  pub sound : IsSound image
  pub front : AppendsFront old new (sound_line image)

-- what a stop leaves in the sink: nothing, or where the sink failed a front of the line
abbrev pub LeavesLine : ((List ℕ → Type 0) → Type 0) → Option (List ℕ) → Option (List ℕ) → Stop → Type 0
LeavesLine on old new Words = new ≡ old
LeavesLine on old new (Refused condition place) = new ≡ old
LeavesLine on old new (JournalRefused line) = new ≡ old
LeavesLine on old new NoSuchFile = new ≡ old
LeavesLine on old new DeviceFault = new ≡ old
LeavesLine on old new FileFault = new ≡ old
LeavesLine on old new WriteFault = on (IsCalledSoundInPart old new)
LeavesLine on old new NoMemory = new ≡ old

-- `check` ended with that status: the image is sound, or a stop is told, with its reason and its line.
pub record CheckAnswer (images : Option (List ℕ → Option (List ℕ))) (name : List ℕ) (device file write : Type 0)
    (old new : Option (List ℕ)) (noted : List ℕ → Type 0) (status : ℕ) : Type 0 where
  pub done : status ≡ 0 → OnImage images name (IsCalledSound old new)
  pub stopped : status ≢ 0 → (stop : Stop) × (status ≡ status_of stop) × HasReason (OnImage images name) ⊥ device file write stop
      × LeavesLine (OnImage images name) old new stop × noted (noted_line stop)

-- ---- `replay`

-- `replay` ended with that status: the listing was appended, or a stop is told, with its reason and its line.
pub record ReplayAnswer (images texts : Option (List ℕ → Option (List ℕ))) (name journal : List ℕ) (device file source write : Type 0)
    (old new : Option (List ℕ)) (noted : List ℕ → Type 0) (status : ℕ) : Type 0 where
  pub done : status ≡ 0 → OnImage images name (Lists texts journal old new)
  pub stopped : status ≢ 0 → (stop : Stop) × (status ≡ status_of stop)
      × StopsReplay (λ number place. OnImage images name (λ image. Flaw image number place))
      (λ line. OnImage images name (RefusesLine texts journal line))
      device (file ⊎ source) write stop
      × LeavesListing (OnImage images name) texts journal old new stop × noted (noted_line stop)

-- ---- `mkfs`

-- `mkfs` ended with that status: the image was made, or a stop is told, with its reason and its line.
pub record MkfsAnswer (old new : Option (List ℕ → Option (List ℕ))) (name : List ℕ) (blocks inodes : ℕ) (device file : Type 0)
    (noted : List ℕ → Type 0) (status : ℕ) : Type 0 where
  pub done : status ≡ 0 → Makes old new name blocks inodes
  pub stopped : status ≢ 0 → (stop : Stop) × (status ≡ status_of stop) × StopsMaking device file stop
      × LeavesUnmade old new name blocks inodes stop × noted (noted_line stop)

-- ---- any command

-- What a command answers, and which images it leaves. `mkfs` alone changes one, and writes nothing to the sink.
abbrev pub Answers : (images left texts : Option (List ℕ → Option (List ℕ))) → (device file source write : Type 0)
    → (old new : Option (List ℕ)) → (List ℕ → Type 0) → ℕ → Command → Type 0
Answers images left texts device file source write old new noted status (cat image n) =
    (left ≡ images) × CatAnswer images image n device file write old new noted status
Answers images left texts device file source write old new noted status (check image) =
    (left ≡ images) × CheckAnswer images image device file write old new noted status
Answers images left texts device file source write old new noted status (mkfs image blocks inodes) =
    (new ≡ old) × MkfsAnswer images left image blocks inodes device file noted status
Answers images left texts device file source write old new noted status (replay image journal) =
    (left ≡ images) × ReplayAnswer images texts image journal device file source write old new noted status
