-- What is read of the bytes of an inode and of a link block: a value of the format, and what tests on the bytes say of it.
use Rattle.std.specs.Prelude.{◌≡◌, ◌<◌, ℕ, true, false, List, Option, MatchOption, IfSome, is_some, slice_index, take}
use Rattle.sv_form.specs.declared.inode.DiskInode.{DiskInode}
use Rattle.sv_form.specs.declared.inode.DiskInode.TheVariants.{Free, Used}
use Rattle.sv_form.specs.declared.inode.InodeBody.{InodeBody}
use Rattle.sv_form.specs.declared.link_block.LinkBlock.{LinkBlock}
use Rattle.sv_form.specs.Inode.{IsInode}
use Rattle.sv_form.specs.LinkBlock.{IsLinkBlock}
use Rattle.sv_form.specs.Node.{is_dir}
use Rattle.sv_form.specs.PagePath.{slots}
use Rattle.sv_plain.specs.Front.{address_of, size_of}
use Rattle.sv_check.specs.Chain.{list_in, reads_list}
use Rattle.sv_check.specs.InodeList.{is_directory, is_free, links_of, reads_inode}

-- the inode that the bytes spell, or None where they spell none
abbrev pub ReadsInode : List ℕ → Option DiskInode → Type 0
ReadsInode bytes read = MatchOption read ((i : DiskInode) → IsInode bytes i → ⊥) (λ i. IsInode bytes i)

-- the tests find a used inode in the bytes, and the numbers that they read there are those of its body
pub record ShowsBody (bytes : List ℕ) (b : InodeBody) : Type 0 where
  pub used : is_free bytes ≡ false
  pub directory : is_directory bytes ≡ is_dir b.kind
  pub links : links_of bytes ≡ b.links
  pub size : size_of bytes ≡ b.size
  pub addresses : (k : ℕ) → k < slots → address_of bytes k ≡ slice_index b.addresses k

-- the same of any inode
abbrev pub ShowsInode : List ℕ → DiskInode → Type 0
ShowsInode bytes Free = is_free bytes ≡ true
ShowsInode bytes (Used b) = ShowsBody bytes b

-- What was read of the bytes of an inode is what they spell. The test holds exactly where they spell one.
pub record IsInodeRead (bytes : List ℕ) (read : Option DiskInode) : Type 0 where
  pub format : ReadsInode bytes read
  pub test : reads_inode bytes ≡ is_some read
  pub shows : IfSome read (ShowsInode bytes)

-- What was read of a link block is the list that its first 204 bytes spell. The test holds exactly where they spell one.
pub record IsListRead (block : List ℕ) (read : Option LinkBlock) : Type 0 where
  pub format : MatchOption read ((l : LinkBlock) → IsLinkBlock (take 204 block) l → ⊥) (λ l. IsLinkBlock (take 204 block) l)
  pub test : reads_list block ≡ is_some read
  pub list : IfSome read (λ l. l.numbers.items ≡ list_in block)
