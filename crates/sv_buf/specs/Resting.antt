-- What a pass stands for that may begin a transfer.
use Rattle.std.specs.Prelude.{◌≡◌, ◌<◌, None}
use Rattle.sv_form.specs.Geometry.{IsGeometry}
use Rattle.sv_buf.specs.View.{View, weight}

-- it has lines or is the worker's, and nothing is in transfer
pub record IsResting (v : View) : Type 0 where
  pub sizes : IsGeometry v.opening.sizes
  pub some : 0 < weight v
  pub calm : v.moving ≡ None
  pub home : v.device ≡ None
