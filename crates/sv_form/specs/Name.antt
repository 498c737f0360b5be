-- What a name may be.
use Rattle.std.specs.Prelude.{◌≢◌, ◌≤◌, ℕ, List, length, All}

-- a slash parts names in a path, and a zero byte fills the entry up
pub record IsNameByte (byte : ℕ) : Type 0 where
  pub no_zero : byte ≢ 0
  pub no_slash : byte ≢ 47

-- 1 to 14 bytes, none of them a slash or zero
pub record IsName (name : List ℕ) : Type 0 where
  pub some : 1 ≤ length name
  pub fits : length name ≤ 14
  pub plain : All IsNameByte name
