mod Numbers
mod After
