mod EmptyRows
