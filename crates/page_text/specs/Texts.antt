-- The constant texts of a page: those of src/ are the definition. Made from page/page.html by page/make_text.
use Rattle.std.specs.Prelude.{ℕ, List, ◌++◌, take}
use Rattle.page_text.specs.declared.head0.TheConstants.{TEXT as head0}
use Rattle.page_text.specs.declared.tail0.TheConstants.{TEXT as tail0}
use Rattle.page_text.specs.declared.tail1.TheConstants.{TEXT as tail1}
use Rattle.page_text.specs.declared.tail2.TheConstants.{TEXT as tail2}

-- what stands before the data of a page
unfoldable pub head : List ℕ
head = head0.now

-- what stands after the data of a page
unfoldable pub tail : List ℕ
tail = tail0.now ++ tail1.now ++ tail2.now

-- what each page begins with, and no other file: its first line
unfoldable pub mark : List ℕ
mark = take 15 head
