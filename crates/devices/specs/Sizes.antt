-- How large the pages and the blocks of a NAND chip are. Assumes nothing.
--
-- bytes_in    the bytes of a page
-- is_page     whether a page can have so many bytes
-- size_of     the bytes of a block: eight pages of so many bytes
use Rattle.std.specs.Prelude.{ℕ, ◌*◌, Bool, true, cond, ◌==◌}
use Rattle.devices.specs.declared.pages.NandPage.{NandPage}
use Rattle.devices.specs.declared.pages.NandPage.TheVariants.{P512, P528}

abbrev pub bytes_in : NandPage → ℕ
bytes_in P512 = 512
bytes_in P528 = 528

abbrev pub is_page : ℕ → Bool
is_page page = cond (page == 512) true (page == 528)

abbrev pub size_of : ℕ → ℕ
size_of page = 8 * page
