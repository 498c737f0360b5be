-- What is known of a file that was found, and of what was written of it.
use Rattle.std.proofs.Common.{◌≡◌, ℕ, List, Option, Some, None, Result, Ok, Err, IfErr, OnErr, IsSomeAnd, ap, inr, subst, sym, ◌∙◌}
use Rattle.sv_dev.specs.Told.{grown, AppendsFront}
use Rattle.sv_form.specs.declared.geometry.Geometry.{Geometry}
use Rattle.sv_form.specs.Geometry.{IsNumber}
use Rattle.sv_form.specs.Image.{geometry_of}
use Rattle.sv_form.specs.Node.{Node}
use Rattle.sv_plain.specs.Front.{file_bytes}
use Rattle.sv_check.specs.declared.pages.PageBlock.{PageBlock}
use Rattle.sv_check.specs.FilePages.{IsFileSize, block_at, file_of, file_pages, text_of}
use Rattle.sv_check.specs.Sound.{IsSound}
use Rattle.sv_check.proofs.FileTexts.{file_text}
use Rattle.sv_session.specs.declared.stop.Stop.{Stop}
use Rattle.sv_session.specs.declared.stop.Stop.TheVariants.{Words, Refused, DeviceFault, FileFault, WriteFault, NoMemory, JournalRefused, NoSuchFile}
use Rattle.sv_session.specs.Answer.{LeavesSink, Shows, ShowsFront}
use Rattle.sv_session.specs.Transfer.{Transfers}

some_more : (o : Option Node) (P Q : Node → Type 0) → ((node : Node) → P node → Q node) → IsSomeAnd o P → IsSomeAnd o Q
some_more None P Q more is = is
some_more (Some node) P Q more is = more node is

-- the bytes that stand in the blocks of the file's pages are those of the file
pub record IsFound (image : List ℕ) (n : ℕ) (bytes : List ℕ) : Type 0 where
  pub sound : IsSound image
  pub text : IsSomeAnd (file_of image n) (λ node. text_of image node ≡ bytes)

module _ (image : List ℕ) (n size : ℕ) (sound : IsSound image) (is : IsFileSize image n (Some size)) where
  found_here : IsNumber (geometry_of image) n → IsFound image n (file_bytes (geometry_of image) image (block_at (file_pages (geometry_of image) image n)) size)
  found_here number = record {
    sound = sound;
    text = subst (λ (s : ℕ). IsSomeAnd (file_of image n) (λ node. text_of image node ≡ file_bytes (geometry_of image) image (block_at (file_pages (geometry_of image) image n)) s))
        (sym is.2) (file_text image sound n number is.0 sound.sized.sizes.bounds is.1);
  }

  pub found : (g : Geometry) (now : List ℕ) (pages : List PageBlock) → g ≡ geometry_of image → IsNumber g n → now ≡ image → pages ≡ file_pages g image n
      → IsFound image n (file_bytes g now (block_at pages) size)
  found g now pages same number content are =
      let whole : IsFound image n (file_bytes g image (block_at (file_pages g image n)) size) =
      subst (λ (x : Geometry). IsFound image n (file_bytes x image (block_at (file_pages x image n)) size)) (sym same) (found_here (subst (λ (x : Geometry). IsNumber x n) same number)) in
      let there : IsFound image n (file_bytes g now (block_at (file_pages g image n)) size) =
      subst (λ (im : List ℕ). IsFound image n (file_bytes g im (block_at (file_pages g image n)) size)) (sym content) whole in
      subst (λ (ps : List PageBlock). IsFound image n (file_bytes g now (block_at ps) size)) (sym are) there

module _ (image : List ℕ) (n : ℕ) (bytes : List ℕ) (is : IsFound image n bytes) (old new : Option (List ℕ)) where
  pub shows : new ≡ grown old bytes → Shows n old new image
  shows grew = record { sound = is.sound; file = some_more (file_of image n) _ _ (λ node text. grew ∙ ap (grown old) (sym text)) is.text }

  pub shows_front : AppendsFront old new bytes → ShowsFront n old new image
  shows_front front = record { sound = is.sound; file = some_more (file_of image n) _ _ (λ node text. subst (λ (b : List ℕ). AppendsFront old new b) (sym text) front) is.text }

-- what an early end of the transfer leaves in the sink
pub leaves_front : (image : List ℕ) (n : ℕ) (old new : Option (List ℕ)) (device write : Type 0) (result : Result (Unit {0}) Stop)
    → IfErr result (Transfers device write) → OnErr result (ShowsFront n old new image) → IfErr result (LeavesSink (λ P. P image) n old new)
leaves_front image n old new device write (Ok _) reason front = tt
leaves_front image n old new device write (Err DeviceFault) reason front = inr front
leaves_front image n old new device write (Err WriteFault) reason front = front
leaves_front image n old new device write (Err Words) reason front = absurd reason
leaves_front image n old new device write (Err (Refused condition place)) reason front = absurd reason
leaves_front image n old new device write (Err FileFault) reason front = absurd reason
leaves_front image n old new device write (Err NoMemory) reason front = absurd reason
leaves_front image n old new device write (Err NoSuchFile) reason front = absurd reason
leaves_front image n old new device write (Err (JournalRefused line)) reason front = absurd reason
