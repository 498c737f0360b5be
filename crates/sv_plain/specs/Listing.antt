-- The listing of a tree: a line for each node, in the order of the inode numbers.
use Rattle.std.specs.Prelude.{◌+◌, ◌++◌, ℕ, List, [], Option, Some, None, codes, false}
use Rattle.std.specs.List.{range_with_len, flat_map}
use Rattle.std.specs.Fmt.{decimal, digits}
use Rattle.std.specs.FinMap as map
use Rattle.sv_form.specs.declared.kind.Kind.{Kind}
use Rattle.sv_form.specs.declared.kind.Kind.TheVariants.{File, Dir}
use Rattle.sv_form.specs.Node.{Node}
use Rattle.sv_plain.specs.Fs.{Fs}

abbrev pub kind_word : Kind → List ℕ
kind_word File = codes "f"
kind_word Dir = codes "d"

-- inode number, kind, and mode in octal
abbrev pub front_text : ℕ → Node → List ℕ
front_text i node = codes "inode " ++ decimal i ++ codes " " ++ kind_word node.kind ++ codes " " ++ digits 8 false node.mode

-- links, size in bytes, and how many pages are present
abbrev pub counts_text : ℕ → ℕ → ℕ → List ℕ
counts_text links size pages = codes " links " ++ decimal links ++ codes " size " ++ decimal size ++ codes " pages " ++ decimal pages
    ++ codes "\n"

abbrev pub node_line : ℕ → Node → List ℕ
node_line i node = front_text i node ++ counts_text node.links node.size (map.len node.pages)

-- no line where there is no node
abbrev pub line_at : ℕ → Option Node → List ℕ
line_at i None = []
line_at i (Some node) = node_line i node

abbrev pub listing_text : Fs → List ℕ
listing_text fs = flat_map (λ i. line_at i (map.get fs.nodes i)) (range_with_len 0 (fs.inodes + 1))
